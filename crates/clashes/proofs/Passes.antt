-- What the passes over the rules and the marks keep, and the search for the pair. Assumes nothing.
use mathlib.Core.Path.{◌≡◌, sym, ap, ◌∙◌}
use mathlib.Core.Bool.{Bool, true, false, ◌&&◌, and-false}
use mathlib.Core.List.{List, ◌++◌}
use Prim.Native.Nat.{ℕ, ◌+◌, ◌*◌, ◌≤◌, ◌<◌}
use native.Mathlib.Numerals.{add-one}
use native.Mathlib.Omega.{arith}
use lib.Dec.{eqb, ltb}
use lib.ListN.{length, get_or, set, drop, length-set, length-replicate, replicate}
use lib.Seq.{get_or-set_same, get_or-set_other}
use borrow.Author.Count.{below_more}
use native.Mathlib.Nat.{le_antisymm}
use Rattle.book.specs.declared.Rule.{Rule}
use borrow.Author.Tests.{eqb-true, eqb-false, eq-eqb, ne_eqb, ltb-true, ltb-false}
use Rattle.general.specs.Cases.{contra, cases, both, or_left, or_right, not_so, lt-suc}
use Rattle.general.specs.Tables.{zeros-at, length-tabulate, tabulate-same}
use Rattle.general.specs.Below.{some, some_of, some_at, first, first-is, first_found, first-none}
use Rattle.sets.specs.Set.{has, union}
use Rattle.sets.specs.Laws.{has-union}
use Rattle.wide.specs.Words.{joined, words_same}
use Rattle.wide.specs.Number.{number, row_of, rows_in, put_row, row_at, rows-put}
use Rattle.wide.specs.declared.Set.{Set}
use Rattle.closure.specs.Cleared.{length-clear, clear_at}
use Rattle.book.specs.Book.{Book, rule_of}
use Rattle.clashes.specs.Clash.{clash, clashes-so, Apart, stages, written, negated}
use Rattle.clashes.specs.Pairs.{clashing, clash_first, clash_second, clashing-of, clashing-low, alone-some}
use Rattle.senses.specs.Senses.{does, turn, stages_at, slot, slots, code_of, with_sense, Senses}
use Rattle.clashes.specs.Groups.{round_words, senses_at, Added, Summed, ByStage, clashes_any, Found}
use Rattle.clashes.proofs.Senses.{senses-none, senses-past, senses-more}

-- of two rules that clash the second clashes with the first
clash-turned : (p q : Rule) → clash p q ≡ true → clash q p ≡ true
clash-turned p q c =
    let k = (clashes-so p q).0 c in
    (clashes-so q p).1 (record { mark = sym k.mark; effects = λ e. k.effects (sym e); close = λ a. k.close (turned a) })
  where
    turned : Apart q p → Apart p q
    turned (stages c d e f n) = stages d c f e (λ z. n (sym z))
    turned (written c e f) = negated c f e
    turned (negated c e f) = written c f e

-- tables with the same words of n rows have the same rows
rows_same : (n : ℕ) (t u : List ℕ) → ((k : ℕ) → k < n * 4 → get_or u k 0 ≡ get_or t k 0) → rows_in n u ≡ rows_in n t
unfolding rows_in row_of
rows_same n t u h = tabulate-same n (row_of u) (row_of t) (λ f l. ap joined (words_same 4 u t (f * 4) 0 (λ j p q. h (f * 4 + j) (omega arith))))

rows_long : (n : ℕ) (t : List ℕ) → length (rows_in n t) ≡ n
unfolding rows_in
rows_long n t = length-tabulate n (row_of t)

-- ---- the words at d take in a rule: the stores to row d and to its senses are apart

module _ (n : ℕ) (work : List ℕ) (wide : round_words n ≤ length work) (d : ℕ) (s : Set) (h : d < 2 * n) where
  put-long : length (put_row work d s) ≡ length work
  put-long = simp length-set

  kept : (f : ℕ) → get_or (put_row work d s) (senses_at n f) 0 ≡ get_or work (senses_at n f) 0
  kept f =
      let one : List ℕ = set work (d * 4) s.w0 in
      let two : List ℕ = set one (d * 4 + 1) s.w1 in
      let three : List ℕ = set two (d * 4 + 2) s.w2 in
      get_or-set_other three (d * 4 + 3) (senses_at n f) s.w3 0 (λ q. omega arith) ∙ get_or-set_other two (d * 4 + 2) (senses_at n f) s.w2 0 (λ q. omega arith)
      ∙ get_or-set_other one (d * 4 + 1) (senses_at n f) s.w1 0 (λ q. omega arith) ∙ get_or-set_other work (d * 4) (senses_at n f) s.w0 0 (λ q. omega arith)

  pub added : (x : Set) (a : ℕ) → number x ≡ row_of work d → number s ≡ union (number x) a → (next : List ℕ) → next ≡ put_row work d s → (g y : ℕ)
      → y ≡ with_sense (get_or next (senses_at n d) 0) g → Added n work d a g (set next (senses_at n d) y)
  added x a p q next u g y w =
      rw u (record {
        long = length-set (put_row work d s) (senses_at n d) y ∙ put-long;
        rows = far y ∙ rows-put work d s (2 * n) (omega arith) h ∙ rw (q, p);
        senses = get_or-set_same (put_row work d s) (senses_at n d) y 0 (rw put-long (omega arith)) ∙ w ∙ rw (u, kept d);
        others = λ f i. get_or-set_other (put_row work d s) (senses_at n d) (senses_at n f) y 0 (λ z. i (omega arith)) ∙ kept f;
      })
    where
      far : (y : ℕ) → rows_in (2 * n) (set (put_row work d s) (senses_at n d) y) ≡ rows_in (2 * n) (put_row work d s)
      far y = rows_same (2 * n) (put_row work d s) (set (put_row work d s) (senses_at n d) y) (λ k l. get_or-set_other (put_row work d s) (senses_at n d) k y 0 (λ z. omega arith))

module _ (b : Book) where
  -- ---- the first pass

  pub summed-start : (from n : ℕ) (work : List ℕ) → round_words n ≤ length work → Summed b from n 0 (replicate (round_words n) 0 ++ drop (round_words n) work)
  summed-start from n work h =
      record {
        wide = rw (length-clear work (round_words n) h) h;
        stages = λ y d e l. absurd (omega arith);
        senses = λ d l. rw (clear_at work (round_words n) (senses_at n d) (omega arith)) (senses-none b (λ q. eqb (does b q) (2 * from + d)));
      }

  -- one entry written
  get_or-entered : (l : List ℕ) (i j v : ℕ) → i < length l → (P : ℕ → Type 0) → (j ≡ i → P v) → ((j ≡ i → ⊥) → P (get_or l j 0)) → P (get_or (set l i v) j 0)
  get_or-entered l i j v h P f g =
      cases (eqb j i) (λ t. let e = eqb-true j i t in rw (e, get_or-set_same l i v 0 h) (f e))
      (λ t. let n = eqb-false j i t in rw (get_or-set_other l i j v 0 n) (g n))

  -- a rule that targets no mark of the round
  pub summed-past : (from n r : ℕ) (work : List ℕ) → Summed b from n r work → ((d : ℕ) → d < 2 * n → does b r ≡ 2 * from + d → ⊥) → Summed b from n (r + 1) work
  summed-past from n r work t far =
      record {
        wide = t.wide;
        stages = λ y d e l h i m. lt-suc (rw add-one at l) (λ j. absurd (far d h (rw j at i))) (λ j. t.stages y d e j h i m);
        senses = λ d h. senses-past b (λ q. eqb (does b q) (2 * from + d)) r (get_or work (senses_at n d) 0) (t.senses d h) (ne_eqb (does b r) (2 * from + d) (far d h));
      }

  module _ (from n r : ℕ) (work : List ℕ) (t : Summed b from n r work) (d x : ℕ) (out : List ℕ) (a : Added n work d (stages_at (turn (rule_of b r).trigger)) x out) where
    pub summed-more : d < 2 * n → does b r ≡ 2 * from + d → x ≡ code_of b r → Summed b from n (r + 1) out
    summed-more h e c =
        let S : ℕ = stages_at (turn (rule_of b r).trigger) in
        record {
          wide = rw a.long t.wide;
          stages = λ z f v l i g m.
              rw (← row_at (2 * n) out f i, a.rows)
              (get_or-entered (rows_in (2 * n) work) d f (union (row_of work d) S) (rw (rows_long (2 * n) work) h) (λ k. has k v ≡ true)
              (λ j. rw (has-union (row_of work d) S v)
              (lt-suc (rw add-one at l) (λ q. or_right (has (row_of work d) v) (has S v) (rw q at m))
              (λ q. or_left (has (row_of work d) v) (has S v) (rw j at (t.stages z f v q i g m)))))
              (λ j. rw (row_at (2 * n) work f i) (lt-suc (rw add-one at l) (λ q. absurd (j (let y : does b r ≡ 2 * from + f = rw q at g in omega arith))) (λ q. t.stages z f v q i g m))));
          senses = λ f l.
              cases (eqb f d)
              (λ i. let z : f ≡ d = eqb-true f d i in
              rw (z, a.senses, c) (senses-more b (λ q. eqb (does b q) (2 * from + d)) r (get_or work (senses_at n d) 0) (t.senses d h) (eq-eqb (does b r) (2 * from + d) e)))
              (λ i. let z = eqb-false f d i in
              rw (a.others f z) (senses-past b (λ q. eqb (does b q) (2 * from + f)) r (get_or work (senses_at n f) 0) (t.senses f l) (ne_eqb (does b r) (2 * from + f) (λ q. z (omega arith)))));
        }

  -- ---- the second pass, for one mark

  pub by-start : (m : ℕ) → ByStage b m 0 (replicate slots 0)
  by-start m =
      record {
        wide = length-replicate {A = ℕ} slots 0;
        senses = λ t h. rw (zeros-at slots t) (senses-none b (λ q. eqb (rule_of b q).target m && eqb (slot b q) t));
      }

  module _ (m r : ℕ) (by : List ℕ) (g : ByStage b m r by) where
    pub by-past : (t : ℕ) → t ≡ (rule_of b r).target → (t ≡ m → ⊥) → ByStage b m (r + 1) by
    by-past t e n =
        record {
          wide = g.wide;
          senses = λ k h. senses-past b (λ q. eqb (rule_of b q).target m && eqb (slot b q) k) r (get_or by k 0) (g.senses k h) (rw (← e, ne_eqb t m n));
        }

    pub by-more : (t at y : ℕ) → t ≡ (rule_of b r).target → t ≡ m → at ≡ slot b r → at < slots → y ≡ with_sense (get_or by at 0) (code_of b r) → ByStage b m (r + 1) (set by at y)
    by-more t at y e f i small w =
        let long = g.wide in
        let hit : eqb (rule_of b r).target m ≡ true = eq-eqb (rule_of b r).target m (sym e ∙ f) in
        record {
          wide = length-set by at y ∙ long;
          senses = λ k h. get_or-entered by at k y (omega arith) (λ z. Senses b (λ q. eqb (rule_of b q).target m && eqb (slot b q) k) (r + 1) z)
              (λ z. rw (w, ← z) (senses-more b (λ q. eqb (rule_of b q).target m && eqb (slot b q) k) r (get_or by k 0) (g.senses k h)
              (rw (hit, eq-eqb (slot b r) k (sym i ∙ sym z)))))
              (λ n. senses-past b (λ q. eqb (rule_of b q).target m && eqb (slot b q) k) r (get_or by k 0) (g.senses k h)
              (rw (ne_eqb (slot b r) k (λ z. n (sym z ∙ sym i))) (and-false (eqb (rule_of b r).target m))));
        }

  -- ---- the lowest rule of one mark that clashes

  pub record Scanned (m p : ℕ) : Type 0 where
    pub none : (x : ℕ) → x < p → (eqb (rule_of b x).target m && clashes_any b x) ≡ false

  module _ (m p : ℕ) (g : Scanned m p) where
    pub scan-found : (low : ℕ) (r : Bool) → r ≡ (eqb (rule_of b p).target m && clashes_any b p) → r ≡ true → p < low → p ≡ first low (λ p. eqb (rule_of b p).target m && clashes_any b p)
    scan-found low r e f h = first_found low (λ p. eqb (rule_of b p).target m && clashes_any b p) p h g.none (sym e ∙ f)

    pub scan-end : (low : ℕ) → low ≤ p → low ≡ first low (λ p. eqb (rule_of b p).target m && clashes_any b p)
    scan-end low h = first-none low (λ p. eqb (rule_of b p).target m && clashes_any b p) (λ x l. g.none x (omega arith))

  -- ---- mark by mark

  pub found-start : (rules : ℕ) → rules ≡ length b.rules → Found b 0 rules
  found-start rules e = record { fits = omega arith; clashes = λ h. absurd (omega arith); none = λ p h l. absurd (omega arith) }

  pub found-calm : (m low : ℕ) → Found b m low → ((p : ℕ) → p < length b.rules → (rule_of b p).target ≡ m → clashes_any b p ≡ false) → Found b (m + 1) low
  found-calm m low g n =
      let f = g.fits in
      record { fits = f; clashes = g.clashes; none = λ p h l. lt-suc (rw add-one at l) (n p (omega arith)) (g.none p h) }

  pub found-more : (m low r : ℕ) → Found b m low → r ≡ first low (λ p. eqb (rule_of b p).target m && clashes_any b p) → Found b (m + 1) r
  found-more m low r g e =
      let f = g.fits in
      let i = first-is low (λ p. eqb (rule_of b p).target m && clashes_any b p) in
      let j = i.fits in
      rw e (record {
        fits = omega arith;
        clashes = λ h. cases (ltb (first low (λ p. eqb (rule_of b p).target m && clashes_any b p)) low)
            (λ t. (both (eqb (rule_of b (first low (λ p. eqb (rule_of b p).target m && clashes_any b p))).target m) (clashes_any b (first low (λ p. eqb (rule_of b p).target m && clashes_any b p)))
            (i.passes (ltb-true _ low t))).1)
            (λ t. let z : first low (λ p. eqb (rule_of b p).target m && clashes_any b p) ≡ low = omega (arith, ltb-false _ low t) in rw z (g.clashes (omega arith)));
        none = λ p h l. lt-suc (rw add-one at l)
            (λ z. not_so (λ c. contra (rw (c, eq-eqb (rule_of b p).target m z)) (i.lowest p h))) (λ l. g.none p (omega arith) l);
      })

  -- ---- the pair

  -- no rule below it clashes
  none-below : (marks low : ℕ) → Found b marks low → ((p : ℕ) → p < length b.rules → (rule_of b p).target < marks) → (x : ℕ) → x < low → some (length b.rules) (clashing b x) ≡ false
  unfolding clashes_any
  none-below marks low g known x h =
      let f = g.fits in
      alone-some b x (λ y l. cases (ltb x y)
      (λ t. clashing-of b x y (ltb-true x y t) ∙ not_so (λ c. contra (some_of (length b.rules) (λ q. clash (rule_of b x) (rule_of b q)) y l c) (g.none x h (known x (omega arith)))))
      (λ t. clashing-low b x y (ltb-false x y t)))

  -- a rule that clashes with the lowest of all stands behind it
  some-behind : (marks low : ℕ) → Found b marks low → ((p : ℕ) → p < length b.rules → (rule_of b p).target < marks) → low < length b.rules → some (length b.rules) (clashing b low) ≡ true
  unfolding clashes_any
  some-behind marks low g known h =
      let (q, l, c) = some_at (length b.rules) (λ q. clash (rule_of b low) (rule_of b q)) (g.clashes h) in
      let back : clash (rule_of b q) (rule_of b low) ≡ true = clash-turned (rule_of b low) (rule_of b q) c in
      cases (ltb low q) (λ t. some_of (length b.rules) (clashing b low) q l (clashing-of b low q (ltb-true low q t) ∙ c))
      (λ t. cases (ltb q low)
      (λ u. contra (some_of (length b.rules) (λ p. clash (rule_of b q) (rule_of b p)) low h back) (g.none q (ltb-true q low u) (known q l)))
      (λ u. let e : q ≡ low = le_antisymm (ltb-false low q t) (ltb-false q low u) in
      absurd (((clashes-so (rule_of b low) (rule_of b q)).0 c).effects (ap (λ p. (rule_of b p).effect) (sym e)))))

  -- the lowest rule that clashes with any begins the pair
  pub found-first : (marks low : ℕ) → Found b marks low → ((p : ℕ) → p < length b.rules → (rule_of b p).target < marks) → low ≡ clash_first b
  unfolding clash_first
  found-first marks low g known =
      let f = g.fits in
      cases (ltb low (length b.rules))
      (λ t. let h = ltb-true low (length b.rules) t in first_found (length b.rules) (λ p. some (length b.rules) (clashing b p)) low h (none-below marks low g known) (some-behind marks low g known h))
      (λ t. let e : low ≡ length b.rules = le_antisymm f (ltb-false low (length b.rules) t) in
      e ∙ first-none (length b.rules) (λ p. some (length b.rules) (clashing b p)) (λ p l. none-below marks low g known p (rw e l)))

  -- ---- its second rule: of those below q none clashes with p behind it

  pub second-more : (p q : ℕ) → p < q → ((y : ℕ) → y < q → clashing b p y ≡ false) → (r : Bool) → r ≡ clash (rule_of b p) (rule_of b q) → r ≡ false
      → (y : ℕ) → y < q + 1 → clashing b p y ≡ false
  second-more p q h g r e f = below_more (λ y. clashing b p y ≡ false) q g (clashing-of b p q h ∙ sym e ∙ f)

  pub second_found : (p q rules : ℕ) → rules ≡ length b.rules → p < q → q < rules → ((y : ℕ) → y < q → clashing b p y ≡ false) → (r : Bool) → r ≡ clash (rule_of b p) (rule_of b q) → r ≡ true
      → q ≡ clash_second b p
  unfolding clash_second
  second_found p q rules e h l g r i f = first_found (length b.rules) (clashing b p) q (rw (← e) l) g (clashing-of b p q h ∙ sym i ∙ f)

  pub second-none : (p rules : ℕ) → rules ≡ length b.rules → ((y : ℕ) → y < rules → clashing b p y ≡ false) → rules ≡ clash_second b p
  unfolding clash_second
  second-none p rules e g = e ∙ first-none (length b.rules) (clashing b p) (λ y l. g y (rw e l))
