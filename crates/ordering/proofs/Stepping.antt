-- The scan of `next_rule`, rule by rule, as the code takes it. Assumes nothing.
use mathlib.Core.Path.{◌≡◌, refl, sym, ap, subst, ◌∙◌}
use mathlib.Core.Bool.{Bool, true, false, not, ◌&&◌, and-false}
use mathlib.Core.List.{List, [], ◌∷◌}
use Prim.Native.Nat.{ℕ, ◌+◌, ◌-◌, ◌/◌, ◌≤◌, ◌<◌}
use native.Mathlib.Omega.{arith}
use lib.Dec.{eqb, ltb}
use lib.ListN.{length, get_or, drop, length-set, length-drop}
use lib.Seq.{get_or-drop, drop-drop}
use borrow.Author.Tests.{eqb-true, eqb-false, ne_eqb, ltb-true, ltb-false, le-leb, lt-leb}
use Rattle.paper.specs.Limits.{max_marks}
use Rattle.general.specs.Cases.{cases, contra, neither, not_so}
use Rattle.general.specs.Below.{some, some_of, first_found, first-none}
use Rattle.book.specs.Book.{rule_of}
use Rattle.book.specs.Firing.{refers}
use Rattle.book.specs.Image.{rules_in, book_of}
use Rattle.book.specs.Marks.{word_bits, has_mark}
use Rattle.book.specs.WellFormed.{WellFormed}
use Rattle.order_theory.specs.Order.{Counted}
use Rattle.order_theory.specs.Written.{Written, write}
use Rattle.order_theory.specs.Running.{unwritten, ready, next, greedy, greedy-on, greedy-end, running_order}
use Rattle.order_theory.proofs.Running.{unwritten-less, ready-is}
use Rattle.order_theory.specs.Skipped.{Skips, skips-write}
use Rattle.unwritten.specs.Words.{marked, flagged, flagged-set, has-unmarked, Onward}
use Rattle.rule_order.specs.Nets.{rules_of, count-is, target-in, below-count, rules-few}
use Rattle.rule_order.specs.References.{touches, Witness}
use Rattle.rule_order.specs.Freed.{Freed, freed-shrunk}
use Rattle.unwritten.specs.Counters.{Struck, struck-on, struck-shrunk}
use Rattle.ordering.specs.declared.scan.Scan.{Scan}
use Rattle.ordering.specs.Ready.{may_stand, stand-ready, stand-written, stand-free}
use Rattle.ordering.specs.Passed.{Blocked, Lowered, Raised, Looked}
use Rattle.ordering.specs.Scanning.{Scanned, Found, Turn, moved}

pub freed-struck : (s : List ℕ) (t : ℕ) (counts waits counts' waits' free : List ℕ) (done : Bool) → Struck t counts waits counts' waits' done → Freed s waits free → Freed s waits' free
freed-struck s t counts waits counts' waits' free done k = freed-shrunk s waits waits' free (struck-shrunk t counts waits counts' waits' done k)

-- ---- a rule that is passed over

-- it may not stand next
blocked-waits : (s waits low high : List ℕ) (d : Written) (r : ℕ) → Blocked s waits low high r → may_stand (book_of s) d waits r ≡ false
unfolding may_stand touches
blocked-waits s waits low high d r k =
    let z : some max_marks (λ m. refers (book_of s) r m && has_mark waits m) ≡ true = some_of max_marks (λ m. refers (book_of s) r m && has_mark waits m) k.mark k.small (rw (k.asks, k.waiting)) in
    rw z (and-false (not (d r)))

module _ (s waits written low high : List ℕ) (r : ℕ) (w : Bool) (e : w ≡ flagged written r) where
  pub looked-written : w ≡ true → Looked s waits written low high r false low high
  looked-written t =
      record { tells = stand-written (book_of s) (flagged written) waits r w e t; notes = λ b u. contra (sym e ∙ t) u; lows = refl; highs = refl; wider = λ p k. k }

  module _ (u : w ≡ false) (m : ℕ) (k : Witness (refers (book_of s) r) waits m) where
    pub looked-ready : max_marks ≤ m → Looked s waits written low high r true low high
    looked-ready l =
        record {
          tells = sym (le-leb max_marks m l) ∙ stand-free (book_of s) (flagged written) waits r w m e u k;
          notes = λ b. contra refl b;
          lows = refl;
          highs = refl;
          wider = λ p x. x;
        }

    pub looked-passed : (low' high' : List ℕ) → m < max_marks → Lowered low m r low' → Raised high m r high' → Looked s waits written low high r false low' high'
    looked-passed low' high' l a b =
        record {
          tells = sym (lt-leb max_marks m l) ∙ stand-free (book_of s) (flagged written) waits r w m e u k;
          notes = λ x y i j. record { mark = m; small = l; asks = (k.one l).0; waiting = (k.one l).1; from = a.this (omega arith); upto = b.this (omega arith) };
          lows = a.size;
          highs = b.size;
          wider = λ p x. record {
            mark = x.mark;
            small = x.small;
            asks = x.asks;
            waiting = x.waiting;
            from = let i = x.from in omega (arith, a.each x.mark);
            upto = let i = x.upto in omega (arith, b.each x.mark);
          };
        }

module _ (s : List ℕ) (stage : ℕ) (g : WellFormed s) (n : ℕ) (scan : Scan) (counts waits written low high : List ℕ) (f : Scanned s stage n scan counts waits written low high) where
  -- what the code tests is "ready"
  as-tested : (r : ℕ) → may_stand (book_of s) (flagged written) waits r ≡ ready (rules_of s stage) (flagged written) r
  as-tested r = stand-ready s stage (flagged written) waits r g f.skips f.counters.rest

  -- nothing below `at` is ready
  unready : (p : ℕ) → p < scan.at → ready (rules_of s stage) (flagged written) p ≡ false
  unready p h =
      cases (flagged written p) (λ w. not_so (λ r. contra w (ready-is (rules_of s stage) (flagged written) p r).0))
      (λ u. sym (as-tested p) ∙ blocked-waits s waits low high (flagged written) p (f.below p h u))

  -- ---- a rule that is not ready is passed over

  pub scanned-pass : (b : Bool) (low' high' : List ℕ) (to here : ℕ) → Looked s waits written low high scan.at b low' high' → b ≡ false → Onward written scan.at to
      → (to ≤ here) × (to < here → (scan.until ≤ to) × (here ≡ scan.front)) → Scanned s stage n (moved scan here) counts waits written low' high'
  scanned-pass b low' high' to here k t o (i, j) =
      record {
        size = f.size;
        lows = k.lows ∙ f.lows;
        highs = k.highs ∙ f.highs;
        skips = f.skips;
        counters = f.counters;
        many = f.many;
        rest = f.rest;
        below = λ p h u. cases (ltb p scan.at) (λ x. k.wider p (f.below p (ltb-true p scan.at x) u)) (λ x. cases (eqb p scan.at)
            (λ y. let z : p ≡ scan.at = eqb-true p scan.at y in rw z (k.notes t (rw z at u) f.lows f.highs))
            (λ y. let v = ltb-false p scan.at x in let z = eqb-false p scan.at y in cases (ltb p to)
            (λ q. contra (o.between p (omega arith) (ltb-true p to q)) u)
            (λ q. let l = ltb-false p to q in let (c, d) = j (omega arith) in k.wider p (f.beyond p (omega arith) (omega arith) u))));
        beyond = λ p h l u. k.wider p (f.beyond p h l u);
      }

  -- ---- past the last rule, the order has ended

  pub scanned-end : rules_in s ≤ scan.at → length (running_order (rules_of s stage)) ≤ n
  scanned-end h =
      let z : next (rules_of s stage) (flagged written) ≡ (rules_of s stage).count = sym (first-none (rules_of s stage).count (ready (rules_of s stage) (flagged written)) (λ q j. unready q
      (omega (arith, count-is s stage)))) in
      let w : drop n (running_order (rules_of s stage)) ≡ [] = f.rest ∙ greedy-end (rules_of s stage) (unwritten (rules_of s stage) (flagged written)) (flagged written) z in
      let l : length (running_order (rules_of s stage)) - n ≡ 0 = sym (length-drop n (running_order (rules_of s stage))) ∙ ap length w in
      omega arith

  -- ---- a rule that is ready is written

  module _ (h : scan.at < rules_in s) (y : may_stand (book_of s) (flagged written) waits scan.at ≡ true) where
    is-so : ready (rules_of s stage) (flagged written) scan.at ≡ true
    is-so = sym (as-tested scan.at) ∙ y

    is-next : scan.at ≡ next (rules_of s stage) (flagged written)
    is-next = first_found (rules_of s stage).count (ready (rules_of s stage) (flagged written)) scan.at (below-count s stage (rules_in s) scan.at refl h) unready is-so

    unwritten-now : flagged written scan.at ≡ false
    unwritten-now = (ready-is (rules_of s stage) (flagged written) scan.at is-so).0

    is-counted : Counted (rules_of s stage) scan.at
    is-counted = (below-count s stage (rules_in s) scan.at refl h, (ready-is (rules_of s stage) (flagged written) scan.at is-so).2)

    flags : flagged (marked written scan.at) ≡ write (flagged written) scan.at
    flags = flagged-set written scan.at (let u = f.size in let v = rules-few s g in omega arith)

    -- the order goes on with it
    goes_on : drop n (running_order (rules_of s stage))
        ≡ scan.at ∷ greedy (rules_of s stage) (unwritten (rules_of s stage) (flagged (marked written scan.at))) (flagged (marked written scan.at))
    goes_on =
        f.rest ∙ ap (λ (u : ℕ). greedy (rules_of s stage) u (flagged written)) (unwritten-less (rules_of s stage) (flagged written) scan.at is-counted unwritten-now)
        ∙ greedy-on (rules_of s stage) (unwritten (rules_of s stage) (write (flagged written) scan.at)) (flagged written) scan.at is-next (below-count s stage (rules_in s) scan.at refl h)
        ∙ ap (λ (d : Written). scan.at ∷ greedy (rules_of s stage) (unwritten (rules_of s stage) d) d) (sym flags)

    is-there : scan.at ≡ get_or (running_order (rules_of s stage)) n (rules_in s)
    is-there =
        let z : n + 0 ≡ n = omega arith in
        sym (ap (λ (l : List ℕ). get_or l 0 (rules_in s)) goes_on) ∙ get_or-drop n (running_order (rules_of s stage)) 0 (rules_in s) ∙ ap (λ (k : ℕ). get_or (running_order (rules_of s stage)) k (rules_in s)) z

    more : n + 1 ≤ length (running_order (rules_of s stage))
    more = let l = length-drop n (running_order (rules_of s stage)) in let k = ap length goes_on in omega arith

    module _ (t : ℕ) (p' : t ≡ (rule_of (book_of s) scan.at).target) (k : t < max_marks) (counts' waits' written' : List ℕ) (done : Bool) (a : Struck t counts waits counts' waits' done)
        (m : written' ≡ marked written scan.at) where
      p : t ≡ (rules_of s stage).target scan.at
      p = target-in s stage scan.at t p'

      -- what was passed over still is, unless it is in the range of a mark that has just been settled
      still : (q : ℕ) → Blocked s waits low high q → (done ≡ true → get_or low t 0 ≤ q → q < get_or high t 0 → ⊥) → Blocked s waits' low high q
      still q x n =
          record {
            mark = x.mark;
            small = x.small;
            asks = x.asks;
            waiting = cases done
                (λ z. rw (a.kept, z, has-unmarked waits t x.mark (let w = f.counters.wide in omega arith), x.waiting) (ap not (ne_eqb x.mark t
                (λ e. n z (rw e at x.from) (rw e at x.upto)))))
                (λ z. rw (a.kept, z) x.waiting);
            from = x.from;
            upto = x.upto;
          }

      -- the scan goes on from where it stands now
      pub found-on : (to : Scan) → to.rule ≡ scan.at → to.at ≤ scan.at + 1 → (done ≡ true → to.at ≤ get_or low t 0) → (done ≡ true → get_or high t 0 ≤ to.until)
          → (scan.at + 1 < scan.until → scan.until ≤ to.until) → (scan.front < to.front → to.front ≡ scan.at + 1) → Found s stage n to counts' waits' written' low high
      found-on to x after lowest highest until front =
          rw m (record {
            next = x ∙ is-there;
            goes = λ j. record {
              size = length-set written (scan.at / word_bits) _ ∙ f.size;
              lows = f.lows;
              highs = f.highs;
              skips = subst (λ (d : Written). Skips (rules_of s stage) d) (sym flags) (skips-write (rules_of s stage) (flagged written) f.skips scan.at);
              counters = rw flags (struck-on (rules_of s stage) (flagged written) scan.at t counts waits f.counters is-counted unwritten-now p k counts' waits' done a);
              many = more;
              rest = sym (drop-drop 1 n (running_order (rules_of s stage))) ∙ ap (drop 1) goes_on;
              below = λ q l u. let (v, w) = left q u in
                  still q (f.below q (omega (arith, eqb-false q scan.at v)) w) (λ d z i. omega (arith, lowest d));
              beyond = λ q l i u. let (v, w) = left q u in
                  still q (cases (ltb q scan.at) (λ z. f.below q (ltb-true q scan.at z) w) (λ z. let c = ltb-false q scan.at z in let d = eqb-false q scan.at v in
                  f.beyond q (cases (ltb (scan.at + 1) scan.until) (λ e. omega (arith, until (ltb-true (scan.at + 1) scan.until e)))
                  (λ e. omega (arith, ltb-false (scan.at + 1) scan.until e)))
                  (cases (ltb scan.front to.front) (λ e. omega (arith, front (ltb-true scan.front to.front e)))
                  (λ e. omega (arith, ltb-false scan.front to.front e))) w)) (λ d z i. omega (arith, highest d));
            };
          })
        where
          left : (q : ℕ) → flagged (marked written scan.at) q ≡ false → (eqb q scan.at ≡ false) × (flagged written q ≡ false)
          left q u = neither (eqb q scan.at) (flagged written q) (sym (ap (λ (d : Written). d q) flags) ∙ u)

-- ---- the turn that writes a rule, whatever the stage

module _ (s : List ℕ) (scan : Scan) (at t : ℕ) (counts waits written low high counts' waits' written' : List ℕ) (done : Bool) (g : WellFormed s) (h : at < rules_in s)
    (y : may_stand (book_of s) (flagged written) waits at ≡ true) (m : written' ≡ marked written at) (p : t ≡ (rule_of (book_of s) at).target) (k : t < max_marks)
    (a : Struck t counts waits counts' waits' done) where
  -- its target is settled: back to the range of that mark
  pub turn-back : (to until front : ℕ) → done ≡ true → (to ≤ at + 1) × (to ≤ get_or low t 0) → (get_or high t 0 ≤ until) × (at + 1 < scan.until → scan.until ≤ until)
      → (scan.front ≤ front) × (at + 1 ≤ front) × (scan.front < front → front ≡ at + 1)
      → Turn s (moved scan at) counts waits written low high (record { rule = at; at = to; until = until; front = front }) counts' waits' written' low high
  turn-back to until front z l u v = record {
    finds = λ stage n f. found-on s stage g n (moved scan at) counts waits written low high f h y t p k counts' waits' written' done a m (record { rule = at; at = to; until = until; front = front }) refl l.0
        (λ d. l.1) (λ d. u.0) u.1 v.2;
  }

  -- else on behind it
  pub turn_on : (front : ℕ) → done ≡ false → (scan.front ≤ front) × (at + 1 ≤ front) × (scan.front < front → front ≡ at + 1)
      → Turn s (moved scan at) counts waits written low high (record { rule = at; at = at + 1; until = scan.until; front = front }) counts' waits' written' low high
  turn_on front z v = record {
    finds = λ stage n f. found-on s stage g n (moved scan at) counts waits written low high f h y t p k counts' waits' written' done a m
        (record { rule = at; at = at + 1; until = scan.until; front = front }) refl (omega arith) (λ d. contra d z) (λ d. contra d z) (λ l. omega arith) v.2;
  }

-- ---- the loop: where the scan stood, it stands further on

pub record Looking (s : List ℕ) (scan : Scan) (counts waits written low high : List ℕ) (here : ℕ) (counts' waits' written' low' high' : List ℕ) : Type 0 where
  pub stands : (stage n : ℕ) → Scanned s stage n scan counts waits written low high → Scanned s stage n (moved scan here) counts' waits' written' low' high'

module _ (s : List ℕ) (g : WellFormed s) (scan : Scan) (counts waits written low high : List ℕ) (here : ℕ) (counts' waits' written' low' high' : List ℕ)
    (l : Looking s scan counts waits written low high here counts' waits' written' low' high') where
  pub looking-on : (b : Bool) (low'' high'' : List ℕ) (to after : ℕ) → Looked s waits' written' low' high' here b low'' high'' → b ≡ false → Onward written' here to
      → (to ≤ after) × (to < after → (scan.until ≤ to) × (after ≡ scan.front)) → Looking s scan counts waits written low high after counts' waits' written' low'' high''
  looking-on b low'' high'' to after k t o i =
      record { stands = λ stage n f. scanned-pass s stage g n (moved scan here) counts' waits' written' low' high' (l.stands stage n f) b low'' high'' to after k t o i }

  pub looking-found : (b : Bool) (low'' high'' : List ℕ) (scan' : Scan) (counts'' waits'' written'' : List ℕ) → Looked s waits' written' low' high' here b low'' high'' → b ≡ true
      → Turn s (moved scan here) counts' waits' written' low'' high'' scan' counts'' waits'' written'' low'' high'' → Turn s scan counts waits written low high scan' counts'' waits'' written'' low'' high''
  looking-found b low'' high'' scan' counts'' waits'' written'' k e t = record { finds = λ stage n f. t.finds stage n (wider (moved scan here) (l.stands stage n f)) }
    where
      wider : {stage n : ℕ} (at : Scan) → Scanned s stage n at counts' waits' written' low' high' → Scanned s stage n at counts' waits' written' low'' high''
      wider at f =
          record {
            size = f.size;
            lows = k.lows ∙ f.lows;
            highs = k.highs ∙ f.highs;
            skips = f.skips;
            counters = f.counters;
            many = f.many;
            rest = f.rest;
            below = λ p i u. k.wider p (f.below p i u);
            beyond = λ p i j u. k.wider p (f.beyond p i j u);
          }

  pub looking-end : rules_in s ≤ here → (stage n : ℕ) → Scanned s stage n scan counts waits written low high → length (running_order (rules_of s stage)) ≤ n
  looking-end h stage n f = scanned-end s stage g n (moved scan here) counts' waits' written' low' high' (l.stands stage n f) h
