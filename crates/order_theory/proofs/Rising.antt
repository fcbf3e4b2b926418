-- A book in which whatever comes before a rule has a lower number: its running order is the counted rules upwards, and a list is that order exactly if
-- it rises, each of its rules counts, and there are as many as count. Assumes nothing.
use Rattle.std.specs.Prelude.{◌≡◌, ◌↔◌, false, ◌&&◌, eqb, leb, ltb}
use Rattle.std.proofs.Math.Path.{refl, sym, ap}
use Rattle.std.proofs.Common.{◌∙◌, add-zero, add-suc}
use Rattle.std.proofs.Math.Bool.{true, cond}
use mathlib.Core.List.{List, [], ◌∷◌}
use Prim.Native.Nat.{ℕ, zero, suc, ◌+◌, ◌≤◌, ◌<◌}
use Rattle.std.proofs.Math.Nat.{zero-add, suc-add}
use Rattle.std.proofs.Math.Numerals.{add-one}
use native.Mathlib.Omega.{arith}
use Rattle.std.proofs.Math.ListN.{length}
use borrow.Author.Tests.{eqb-true, eqb-false, eq-eqb, lt-ltb, le-ltb, ltb-true, ltb-false, le-leb, leb-true}
use Rattle.general.specs.Cases.{contra, cases, both, not_so}
use Rattle.general.specs.Below.{first_found, first-none, tally, tally-step}
use Rattle.order_theory.specs.Order.{Net, Counted, counted_rules}
use Rattle.order_theory.specs.Written.{Written, none, write}
use Rattle.order_theory.specs.Running.{ready, next, unwritten, unwritten_first, greedy, greedy-on, greedy-end, running_order}
use Rattle.order_theory.proofs.Running.{ready-is, is-ready, unwritten-less}
use Rattle.order_theory.specs.Rising.{Rising, upwards, rises}

module _ (N : Net) where
  -- ---- the running order

  -- of the counted rules, those below k are written
  abbrev Below : Written → ℕ → Type 0
  Below d k = (p : ℕ) → Counted N p → d p ≡ ltb p k

  module _ (rising : Rising N) where
    -- one that is written is not ready
    behind : (d : Written) (k : ℕ) → Below d k → (p : ℕ) → p < N.count → p < k → ready N d p ≡ false
    behind d k b p l h = not_so (λ e. let t = ready-is N d p e in contra (b p (l, t.2) ∙ lt-ltb p k h) t.0)

    -- the lowest that is not, is
    here : (d : Written) (k : ℕ) → Below d k → k < N.count → N.counts k ≡ true → k ≡ next N d
    here d k b h c =
        first_found N.count (ready N d) k h (λ p l. behind d k b p (omega arith) l)
        (is-ready N d k c (b k (h, c) ∙ le-ltb k k (omega arith))
        (λ p i u. not_so (λ x. let l = rising p k i (h, c) x in contra (b p i ∙ lt-ltb p k l) u)))

    -- past k, what is below k + 1 is what was below k, and k where it counts
    passes_on : (d : Written) (k : ℕ) → Below d k → N.counts k ≡ false → Below d (suc k)
    passes_on d k b c p i =
        b p i ∙ cases (ltb p k) (λ x. let l = ltb-true p k x in rw x (sym (lt-ltb p (suc k) (omega arith))))
        (λ x. let l = ltb-false p k x in let n : p ≡ k → ⊥ = λ z. contra (rw z at i.1) c in rw x (sym (le-ltb p (suc k) (omega arith))))

    writes-on : (d : Written) (k : ℕ) → Below d k → Below (write d k) (suc k)
    writes-on d k b p i =
        cases (eqb p k) (λ x. rw (eqb-true p k x, eq-eqb k k refl) (sym (lt-ltb k (suc k) (omega arith))))
        (λ x. let n = eqb-false p k x in rw x (b p i ∙ cases (ltb p k) (λ y. let l = ltb-true p k y in rw y (sym (lt-ltb p (suc k) (omega arith))))
        (λ y. let l = ltb-false p k y in rw y (sym (le-ltb p (suc k) (omega arith))))))

    one_less : (d : Written) (k : ℕ) → Below d k → Counted N k → unwritten N d ≡ suc (unwritten N (write d k))
    one_less d k b i = unwritten-less N d k i (b k i ∙ le-ltb k k (omega arith))

    pub greedy-rising : (j f k : ℕ) (d : Written) → k + j ≡ N.count → Below d k → unwritten N d ≤ f → greedy N f d ≡ upwards N k j
    unfolding upwards
    greedy-rising zero f k d e b u = greedy-end N f d (sym (first-none N.count (ready N d) (λ p l. behind d k b p l (omega arith))))
    greedy-rising (suc j) zero k d e b u =
        cases (N.counts k) (λ c. absurd (omega (arith, one_less d k b (omega arith, c)))) (λ c. rw c (greedy-rising j zero (suc k) d (omega arith) (passes_on d k b c) u))
    greedy-rising (suc j) (suc f) k d e b u =
        cases (N.counts k)
        (λ c. rw c (greedy-on N f d k (here d k b (omega arith) c) (omega arith)
        ∙ ap (λ (l : List ℕ). k ∷ l) (greedy-rising j f (suc k) (write d k) (omega arith) (writes-on d k b) (omega (arith, one_less d k b (omega arith, c))))))
        (λ c. rw c (greedy-rising j (suc f) (suc k) d (omega arith) (passes_on d k b c) u))

    pub running-rising : running_order N ≡ upwards N 0 N.count
    unfolding running_order
    running-rising = greedy-rising N.count (counted_rules N) 0 none (omega arith) (λ p i. sym (le-ltb p 0 (omega arith))) (omega (arith, unwritten_first N))

  -- ---- a list that rises

  -- how many of the j rules from k on count
  unfoldable ahead : ℕ → ℕ → ℕ
  ahead k zero = 0
  ahead k (suc j) = cond (N.counts k) 1 0 + ahead (suc k) j

  ahead-tally : (j k : ℕ) → tally k N.counts + ahead k j ≡ tally (k + j) N.counts
  unfolding ahead
  ahead-tally zero k = rw (add-zero k) (omega arith)
  ahead-tally (suc j) k =
      let i : tally (suc k) N.counts + ahead (suc k) j ≡ tally (suc k + j) N.counts = ahead-tally j (suc k) in
      let e : tally (suc k) N.counts ≡ cond (N.counts k) 1 0 + tally k N.counts = rw (← add-one k) (tally-step k N.counts) in
      rw (add-suc k j, ← suc-add k j, ← i, e) (omega arith)

  -- the first of a list that rises from k on, and what follows it
  first-rises : (k r : ℕ) (l : List ℕ) → rises N k (r ∷ l) ≡ true → (k ≤ r) × (r < N.count) × (N.counts r ≡ true) × (rises N (suc r) l ≡ true)
  unfolding rises
  first-rises k r l h =
      let (a, b) = both (leb k r && (ltb r N.count && N.counts r)) (rises N (suc r) l) h in
      let (c, d) = both (leb k r) (ltb r N.count && N.counts r) a in
      let (e, f) = both (ltb r N.count) (N.counts r) d in
      (leb-true k r c, ltb-true r N.count e, f, b)

  rises-first : (k r : ℕ) (l : List ℕ) → k ≤ r → r < N.count → N.counts r ≡ true → rises N (suc r) l ≡ true → rises N k (r ∷ l) ≡ true
  unfolding rises
  rises-first k r l h i c e = rw (le-leb k r h, lt-ltb r N.count i, c, e)

  -- such a list has no more rules than count there
  rises-few : (j k : ℕ) (l : List ℕ) → k + j ≡ N.count → rises N k l ≡ true → length l ≤ ahead k j
  unfolding ahead
  rises-few j k [] e h = omega arith
  rises-few zero k (r ∷ l) e h = let (a, b, c, d) = first-rises k r l h in absurd (omega arith)
  rises-few (suc j) k (r ∷ l) e h =
      let (a, b, c, d) = first-rises k r l h in
      cases (eqb k r)
      (λ x. let q = eqb-true k r x in
      let i : length l ≤ ahead (suc k) j = rises-few j (suc k) l (omega arith) (rw (← q) at d) in
      let y : N.counts k ≡ true = rw q c in rw y (omega arith))
      (λ x. let q = eqb-false k r x in
      let i : length (r ∷ l) ≤ ahead (suc k) j = rises-few j (suc k) (r ∷ l) (omega arith) (rises-first (suc k) r l (omega arith) b c d) in omega arith)

  -- and is those rules if it has as many
  rises-all : (j k : ℕ) (l : List ℕ) → k + j ≡ N.count → rises N k l ≡ true → length l ≡ ahead k j → l ≡ upwards N k j
  unfolding ahead upwards rises
  rises-all zero k [] e h n = refl
  rises-all zero k (r ∷ l) e h n = let (a, b, c, d) = first-rises k r l h in absurd (omega arith)
  rises-all (suc j) k [] e h n =
      cases (N.counts k) (λ x. let z : 0 ≡ 1 + ahead (suc k) j = rw x at n in absurd (omega arith))
      (λ x. let z : 0 ≡ 0 + ahead (suc k) j = rw x at n in rw x (rises-all j (suc k) [] (omega arith) refl (omega arith)))
  rises-all (suc j) k (r ∷ l) e h n =
      let (a, b, c, d) = first-rises k r l h in
      cases (eqb k r)
      (λ x. let q = eqb-true k r x in
      let y : N.counts k ≡ true = rw q c in
      let z : length (r ∷ l) ≡ 1 + ahead (suc k) j = rw y at n in
      rw (y, q) (ap (λ (t : List ℕ). r ∷ t) (rw (← q) (rises-all j (suc k) l (omega arith) (rw (← q) at d) (omega arith)))))
      (λ x. let q = eqb-false k r x in
      let g : rises N (suc k) (r ∷ l) ≡ true = rises-first (suc k) r l (omega arith) b c d in
      let i : length (r ∷ l) ≤ ahead (suc k) j = rises-few j (suc k) (r ∷ l) (omega arith) g in
      cases (N.counts k)
      (λ y. let z : length (r ∷ l) ≡ 1 + ahead (suc k) j = rw y at n in absurd (omega arith))
      (λ y. let z : length (r ∷ l) ≡ 0 + ahead (suc k) j = rw y at n in rw y (rises-all j (suc k) (r ∷ l) (omega arith) g (omega arith))))

  rises-lower : (k : ℕ) (l : List ℕ) → rises N (suc k) l ≡ true → rises N k l ≡ true
  unfolding rises
  rises-lower k [] h = h
  rises-lower k (r ∷ l) h = let (a, b, c, d) = first-rises (suc k) r l h in rises-first k r l (omega arith) b c d

  upwards-rises : (j k : ℕ) → k + j ≡ N.count → rises N k (upwards N k j) ≡ true
  unfolding upwards rises
  upwards-rises zero k e = refl
  upwards-rises (suc j) k e =
      let i = upwards-rises j (suc k) (omega arith) in
      cases (N.counts k) (λ c. rw c (rises-first k k (upwards N (suc k) j) (omega arith) (omega arith) c i)) (λ c. rw c (rises-lower k (upwards N (suc k) j) i))

  all-ahead : ahead 0 N.count ≡ counted_rules N
  unfolding tally
  all-ahead = let i : 0 + ahead 0 N.count ≡ tally (0 + N.count) N.counts = ahead-tally N.count 0 in rw (zero-add N.count, zero-add (ahead 0 N.count)) at i

  -- where orders rise, a list of as many rules as count is the running order exactly if it rises
  pub order-rises : Rising N → (l : List ℕ) → length l ≡ counted_rules N → (rises N 0 l ≡ true) ↔ (l ≡ running_order N)
  order-rises g l n =
      rw (running-rising g) (
        λ h. rises-all N.count 0 l (omega arith) h (n ∙ sym (all-ahead)),
        λ e. rw e (upwards-rises N.count 0 (omega arith)),
      )
