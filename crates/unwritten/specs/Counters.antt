-- How many counted and unwritten rules target each mark, and the set of the marks that are not yet settled, as the code keeps them. Assumes nothing.
use Rattle.std.specs.Prelude.{◌≡◌, refl, ◌≢◌, Bool, true, false, cond, ◌&&◌, List, ℕ, zero, suc, ◌+◌, ◌-◌, ◌/◌, ◌%◌, ◌≤◌, ◌<◌, eqb, ltb, leb, length, get_or, set, replicate}
use Rattle.std.proofs.Math.Path.{sym, ap, fun_ext}
use Rattle.std.proofs.Common.{◌∙◌, arith, length-set, get_or-set_same, get_or-set_other}
use Rattle.std.proofs.Math.Bool.{not, and-true, and-false, or-true, or-false}
use Rattle.std.proofs.Math.ListN.{length-replicate, get_or-replicate}
use Rattle.std.proofs.Math.Seq.{set_out}
use borrow.Author.Tests.{eqb-true, eqb-false, eq-eqb, ne_eqb, lt-ltb, le-ltb, ltb-true, ltb-false, lt-leb}
use Rattle.paper.specs.Limits.{max_marks, max_rules}
use Rattle.general.specs.Cases.{cases, both}
use Rattle.general.specs.Below.{tally, tally-step, tally-le}
use Rattle.sets.specs.Set.{has, union, minus, only}
use Rattle.sets.specs.Laws.{has-empty}
use Rattle.book.specs.Marks.{word_bits, mark_words, has_mark}
use Rattle.order_theory.specs.Order.{Net, Counted, counted_rules}
use Rattle.order_theory.specs.Written.{Written, write}
use Rattle.order_theory.specs.Marks.{waiting, is_settled, waiting-first, waiting-less, waiting-other}
use Rattle.order_theory.specs.Skipped.{skipped}
use Rattle.order_theory.proofs.Skipped.{skipped-waiting}
use Rattle.rule_order.specs.Freed.{Shrunk}
use Rattle.unwritten.specs.Words.{rule_words, marked, unmarked, has-marked, has-unmarked, flagged, AllWritten}

-- counts has for each mark how many counted and unwritten rules target it, and waits the marks of which there is one
pub record Counters (N : Net) (d : Written) (counts waits : List ℕ) : Type 0 where
  pub size : length counts ≡ max_marks
  pub wide : length waits ≡ mark_words
  pub each : (m : ℕ) → m < max_marks → get_or counts m 0 ≡ waiting N d m
  pub rest : (m : ℕ) → m < max_marks → has_mark waits m ≡ not (is_settled N d m)

-- every rule that counts is one from `from` to below `to`, or one from `again` to below `end`
pub record Span (N : Net) (rules from to again end : ℕ) : Type 0 where
  pub first : from ≤ to
  pub gap : to ≤ again
  pub then : again ≤ end
  pub within : end ≤ rules
  pub below : (r : ℕ) → r < from → N.counts r ≡ false
  pub between : (r : ℕ) → to ≤ r → r < again → N.counts r ≡ false
  pub above : (r : ℕ) → end ≤ r → r < rules → N.counts r ≡ false

pub span-all : (N : Net) (rules : ℕ) → Span N rules 0 rules rules rules
span-all N rules =
    record {
      first = omega arith;
      gap = omega arith;
      then = omega arith;
      within = omega arith;
      below = λ r h. absurd (omega arith);
      between = λ r h l. absurd (omega arith);
      above = λ r h l. absurd (omega arith);
    }

-- the start: no counted rule is written, and the flags say those that do not count
pub record Begun (N : Net) (counts waits written : List ℕ) : Type 0 where
  pub size : length written ≡ rule_words
  pub flags : flagged written ≡ skipped N
  pub counters : Counters N (flagged written) counts waits

-- ---- the first k rules asked

module _ (N : Net) where
  -- how many of the first k rules count and target m
  abbrev pub targeting : ℕ → ℕ → ℕ
  targeting k m = tally k (λ p. N.counts p && eqb (N.target p) m)

  pub record Counting (n k : ℕ) (counts waits written : List ℕ) : Type 0 where
    pub within : k ≤ N.count
    pub many : n ≡ tally k N.counts
    pub size : length counts ≡ max_marks
    pub wide : length waits ≡ mark_words
    pub flags : length written ≡ rule_words
    pub each : (m : ℕ) → m < max_marks → get_or counts m 0 ≡ targeting k m
    pub rest : (m : ℕ) → m < max_marks → has_mark waits m ≡ not (eqb (targeting k m) 0)
    pub skips : (q : ℕ) → flagged written q ≡ (ltb q N.count && not (ltb q k && N.counts q))

  counting-none : (written : List ℕ) → AllWritten N.count written → Counting 0 0 (replicate max_marks 0) (replicate mark_words 0) written
  unfolding tally
  counting-none written a =
      record {
        within = omega arith;
        many = refl;
        size = length-replicate {A = ℕ} max_marks 0;
        wide = length-replicate {A = ℕ} mark_words 0;
        flags = a.size;
        each = λ m h. get_or-replicate max_marks m 0 0 h;
        rest = λ m h. ap (λ (x : ℕ). has x (m % word_bits)) (get_or-replicate mark_words (m / word_bits) 0 0 (omega arith)) ∙ has-empty (m % word_bits);
        skips = λ q. a.flags q ∙ rw (le-ltb q 0 (omega arith)) (sym (and-true (ltb q N.count)));
      }

  pub counting-fits : (n k m : ℕ) (counts waits written : List ℕ) → Counting n k counts waits written → m < max_marks → N.count ≤ max_rules → get_or counts m 0 ≤ max_rules
  counting-fits n k m counts waits written c h l = let i = c.within in omega (arith, c.each m h, tally-le k (λ p. N.counts p && eqb (N.target p) m))

  pub counting-few : (n k : ℕ) (counts waits written : List ℕ) → Counting n k counts waits written → n ≤ k
  counting-few n k counts waits written c = let e = c.many in omega (arith, tally-le k N.counts)

  -- one rule more that does not count
  asked-more : (k q : ℕ) → (q ≡ k → N.counts k ≡ false) → (ltb q k && N.counts q) ≡ (ltb q (k + 1) && N.counts q)
  asked-more k q n =
      cases (eqb q k)
      (λ x. let p : q ≡ k = eqb-true q k x in rw (p, n p, and-false (ltb k k), and-false (ltb k (k + 1))))
      (λ x. let u = eqb-false q k x in cases (ltb q k) (λ y. rw (y, lt-ltb q (k + 1) (omega (arith, ltb-true q k y)))) (λ y. rw (y, le-ltb q (k + 1) (omega (arith, ltb-false q k y)))))

  counting_more : (n k t : ℕ) (counts waits written : List ℕ) → Counting n k counts waits written → k < N.count → N.count ≤ max_rules → N.counts k ≡ true → t ≡ N.target k → t < max_marks
      → Counting (n + 1) (k + 1) (set counts t (get_or counts t 0 + 1)) (marked waits t) (unmarked written k)
  counting_more n k t counts waits written c h f y e i =
      let l = c.size in
      let w = c.wide in
      record {
        within = omega arith;
        many = rw (tally-step k N.counts, y) (omega (arith, c.many));
        size = length-set counts t _ ∙ c.size;
        wide = length-set waits (t / word_bits) _ ∙ c.wide;
        flags = length-set written (k / word_bits) _ ∙ c.flags;
        each = λ m j. cases (eqb m t)
            (λ x. let p : m ≡ t = eqb-true m t x in
            rw (p, get_or-set_same counts t (get_or counts t 0 + 1) 0 (omega arith), tally-step k (λ p. N.counts p && eqb (N.target p) t), y, eq-eqb (N.target k) t (sym e)) (omega
            (arith, c.each t i)))
            (λ x. rw (
              get_or-set_other counts t m (get_or counts t 0 + 1) 0 (eqb-false m t x),
              tally-step k (λ p. N.counts p && eqb (N.target p) m),
              y,
              ne_eqb (N.target k) m
                  (λ q. eqb-false m t x (sym (e ∙ q))),
            ) (omega (arith, c.each m j)));
        rest = λ m j. has-marked waits t m (omega arith) ∙ cases (eqb m t)
            (λ x. let p : m ≡ t = eqb-true m t x in
            rw (x, tally-step k (λ p. N.counts p && eqb (N.target p) m), y, eq-eqb (N.target k) m (sym (p ∙ e))) (or-true (has_mark waits m) ∙ sym (ap not (ne_eqb (1 + targeting k m) 0
            (λ q. omega arith)))))
            (λ x. rw (x, tally-step k (λ p. N.counts p && eqb (N.target p) m), y, ne_eqb (N.target k) m (λ q. eqb-false m t x (sym (e ∙ q))))
            (let z : targeting k m ≡ 0 + targeting k m = omega arith in or-false (has_mark waits m) ∙ c.rest m j ∙ ap (λ (n : ℕ). not (eqb n 0)) z));
        skips = λ q. has-unmarked written k q (let z = c.flags in omega arith) ∙ cases (eqb q k)
            (λ x. let p : q ≡ k = eqb-true q k x in rw (x, p, y, lt-ltb k (k + 1) (omega arith)) (and-false (flagged written k) ∙ sym (and-false (ltb k N.count))))
            (λ x. rw x (and-true (flagged written q) ∙ c.skips q ∙ ap (λ (b : Bool). ltb q N.count && not b) (asked-more k q (λ p. absurd (eqb-false q k x p)))));
      }

  -- a rule that counts
  pub counting-on : (n k t one word n' : ℕ) (b : Bool) (counts waits written counts' waits' written' : List ℕ)
      → Counting n k counts waits written → k < N.count → N.count ≤ max_rules → b ≡ N.counts k → b ≡ true → t ≡ N.target k → t < max_marks → one ≡ only (t % word_bits) → word ≡ union (get_or waits (t / word_bits) 0) one
      → counts' ≡ set counts t (get_or counts t 0 + 1) → waits' ≡ set waits (t / word_bits) word → written' ≡ unmarked written k → n' ≡ n + 1 → Counting n' (k + 1) counts' waits' written'
  counting-on n k t one word n' b counts waits written counts' waits' written' c h f x y e i o w p q r z =
      rw (p, q, r, w, o, z) (counting_more n k t counts waits written c h f (sym x ∙ y) e i)

  same-targeting : (k m : ℕ) → N.counts k ≡ false → targeting (k + 1) m ≡ targeting k m
  same-targeting k m n = rw (tally-step k (λ p. N.counts p && eqb (N.target p) m), n) (omega arith)

  -- one that does not
  counting-pass : (n k : ℕ) (counts waits written : List ℕ) → Counting n k counts waits written → k < N.count → N.counts k ≡ false → Counting n (k + 1) counts waits written
  counting-pass n k counts waits written c h x =
      record {
        within = omega arith;
        many = rw (tally-step k N.counts, x) (omega (arith, c.many));
        size = c.size;
        wide = c.wide;
        flags = c.flags;
        each = λ m j. c.each m j ∙ sym (same-targeting k m x);
        rest = λ m j. c.rest m j ∙ ap (λ (z : ℕ). not (eqb z 0)) (sym (same-targeting k m x));
        skips = λ q. c.skips q ∙ ap (λ (b : Bool). ltb q N.count && not b) (asked-more k q (λ z. x));
      }

  pub counting-skip : (n k n' : ℕ) (b : Bool) (counts waits written counts' waits' written' : List ℕ)
      → Counting n k counts waits written → k < N.count → b ≡ N.counts k → b ≡ false
      → counts' ≡ counts → waits' ≡ waits → written' ≡ written → n' ≡ n → Counting n' (k + 1) counts' waits' written'
  counting-skip n k n' b counts waits written counts' waits' written' c h x y p q r z = rw (p, q, r, z) (counting-pass n k counts waits written c h (sym x ∙ y))

  pub counting-there : (n k to : ℕ) (counts waits written : List ℕ) → Counting n k counts waits written → k ≤ to → to ≤ k → Counting n to counts waits written
  counting-there n k to counts waits written c h i = let e : k ≡ to = omega arith in rw e at c

  -- and any number of those that do not
  counting-over : (d n k to : ℕ) (counts waits written : List ℕ) → k + d ≡ to → to ≤ N.count → ((r : ℕ) → k ≤ r → r < to → N.counts r ≡ false)
      → Counting n k counts waits written → Counting n to counts waits written
  counting-over zero n k to counts waits written e h x c = let p : to ≡ k = omega arith in rw p c
  counting-over (suc d) n k to counts waits written e h x c =
      counting-over d n (k + 1) to counts waits written (omega arith) h (λ r i j. x r (omega arith) j) (counting-pass n k counts waits written c (omega arith) (x k (omega arith) (omega arith)))

  module _ (rules from to again end : ℕ) (e : rules ≡ N.count) (x : Span N rules from to again end) where
    -- up to the first that may count
    pub counting-first : (written : List ℕ) → AllWritten rules written → Counting 0 from (replicate max_marks 0) (replicate mark_words 0) written
    counting-first written a =
        let i = x.first in let j = x.gap in let k = x.then in let l = x.within in
        counting-over from 0 0 from _ _ written (omega arith) (omega arith) (λ r u v. x.below r v) (counting-none written (rw e at a))

    -- from one span to the next
    pub counting-gap : (n : ℕ) (counts waits written : List ℕ) → Counting n to counts waits written → Counting n again counts waits written
    counting-gap n counts waits written c =
        let i = x.gap in let j = x.then in let k = x.within in
        counting-over (again - to) n to again counts waits written (omega arith) (omega arith) x.between c

    -- behind the last that may
    counting-end : (n : ℕ) (counts waits written : List ℕ) → Counting n end counts waits written → Counting n N.count counts waits written
    counting-end n counts waits written c =
        let k = x.within in
        counting-over (N.count - end) n end N.count counts waits written (omega arith) (omega arith) (λ r u v. x.above r u (omega arith)) c

  pub counting-last : (n rules from to again end : ℕ) (counts waits written : List ℕ) → ((q : ℕ) → N.count ≤ q → N.counts q ≡ true) → rules ≡ N.count → Span N rules from to again end
      → Counting n end counts waits written → (n ≡ counted_rules N) × (Begun N counts waits written)
  unfolding is_settled
  counting-last n rules from to again end counts waits written past e s i =
      let c = counting-end rules from to again end e s n counts waits written i in
      let f : flagged written ≡ skipped N = fun_ext (λ q. c.skips q ∙ cases (ltb q N.count) (λ x. rw x) (λ x. rw (x, past q (ltb-false q N.count x)))) in
      let w : (m : ℕ) → targeting N.count m ≡ waiting N (flagged written) m = λ m. rw f (sym (skipped-waiting N m ∙ waiting-first N m)) in (
        c.many,
        record {
          size = c.flags;
          flags = f;
          counters = record {
            size = c.size;
            wide = c.wide;
            each = λ m i. c.each m i ∙ w m;
            rest = λ m i. c.rest m i ∙ ap (λ (n : ℕ). not (eqb n 0)) (w m);
          };
        },
      )

-- ---- one rule less

-- what is kept once one rule less targets t: whether none is left, and the counts and the set
pub record Struck (t : ℕ) (counts waits counts' waits' : List ℕ) (done : Bool) : Type 0 where
  pub last : done ≡ leb (get_or counts t 0) 1
  pub fewer : counts' ≡ set counts t (get_or counts t 0 - 1)
  pub kept : waits' ≡ cond done (unmarked waits t) waits

-- the set has no mark that it had not
pub struck-shrunk : (t : ℕ) (counts waits counts' waits' : List ℕ) (done : Bool) → Struck t counts waits counts' waits' done → Shrunk waits waits'
struck-shrunk t counts waits counts' waits' done k =
    record { kept = λ m h x. cases done (λ y. fewer m (rw (k.kept, y) at x)) (λ y. rw (k.kept, y) at x) }
  where
    fewer : (m : ℕ) → has_mark (unmarked waits t) m ≡ true → has_mark waits m ≡ true
    fewer m x =
        cases (ltb (t / word_bits) (length waits))
        (λ y. (both (has_mark waits m) (not (eqb m t)) (sym (has-unmarked waits t m (ltb-true (t / word_bits) (length waits) y)) ∙ x)).0)
        (λ y. sym (ap (λ (l : List ℕ). has_mark l m) (set_out waits (t / word_bits) (minus (get_or waits (t / word_bits) 0) (only (t % word_bits))) (ltb-false (t / word_bits) (length waits) y))) ∙ x)

module _ (N : Net) (d : Written) (r t : ℕ) (counts waits : List ℕ) (c : Counters N d counts waits) (h : Counted N r) (u : d r ≡ false) (e : t ≡ N.target r) (i : t < max_marks) where
  one_less : get_or counts t 0 ≡ suc (waiting N (write d r) t)
  one_less = c.each t i ∙ rw e (waiting-less N d r h u)

  module _ (counts' waits' : List ℕ) (done : Bool) (k : Struck t counts waits counts' waits' done) where
    pub struck-settled : done ≡ is_settled N (write d r) (N.target r)
    unfolding is_settled
    struck-settled =
        k.last ∙ rw (← e, one_less) (cases (eqb (waiting N (write d r) t) 0) (λ x. rw (x, eqb-true (waiting N (write d r) t) 0 x))
        (λ x. rw x (lt-leb (suc (waiting N (write d r) t)) 1 (let y = eqb-false (waiting N (write d r) t) 0 x in omega arith))))

    struck-each : (m : ℕ) → m < max_marks → get_or counts' m 0 ≡ waiting N (write d r) m
    struck-each m j =
        cases (eqb m t)
        (λ x. rw (k.fewer, eqb-true m t x, get_or-set_same counts t (get_or counts t 0 - 1) 0 (let l = c.size in omega arith)) (omega (arith, one_less)))
        (λ x. rw (k.fewer, get_or-set_other counts t m (get_or counts t 0 - 1) 0 (eqb-false m t x)) (c.each m j ∙ sym (waiting-other N d r m (λ q. eqb-false m t x (q ∙ sym e)))))

    settled-other : (m : ℕ) → m ≢ t → is_settled N d m ≡ is_settled N (write d r) m
    unfolding is_settled
    settled-other m n = rw (waiting-other N d r m (λ q. n (q ∙ sym e)))

    settled_before : is_settled N d t ≡ false
    unfolding is_settled
    settled_before = ne_eqb (waiting N d t) 0 (λ q. omega (arith, c.each t i, one_less))

    struck-rest : (m : ℕ) → m < max_marks → has_mark waits' m ≡ not (is_settled N (write d r) m)
    struck-rest m j =
        cases done
        (λ y. let z : waits' ≡ unmarked waits t = k.kept ∙ rw y in
        rw (z, has-unmarked waits t m (let w = c.wide in omega arith)) (cases (eqb m t)
        (λ x. let p : m ≡ N.target r = eqb-true m t x ∙ e in rw (x, p, ← struck-settled, y) (and-false (has_mark waits (N.target r))))
        (λ x. rw x (and-true (has_mark waits m) ∙ c.rest m j ∙ ap not (settled-other m (eqb-false m t x))))))
        (λ y. let z : waits' ≡ waits = k.kept ∙ rw y in
        rw (z, c.rest m j) (cases (eqb m t)
        (λ x. let p : m ≡ t = eqb-true m t x in let q : is_settled N (write d r) t ≡ false = (let v : is_settled N (write d r) (N.target r) ≡ false = sym struck-settled ∙ y in rw e v) in rw (p, settled_before, q))
        (λ x. ap not (settled-other m (eqb-false m t x)))))

    struck-wide : length waits' ≡ mark_words
    struck-wide =
        ap length k.kept ∙ cases done (λ y. rw y (length-set waits (t / word_bits) (minus (get_or waits (t / word_bits) 0) (only (t % word_bits))) ∙ c.wide)) (λ y. rw y c.wide)

    pub struck-on : Counters N (write d r) counts' waits'
    struck-on =
        record {
          size = ap length k.fewer ∙ length-set counts t (get_or counts t 0 - 1) ∙ c.size;
          wide = struck-wide;
          each = struck-each;
          rest = struck-rest;
        }
