-- The running order. It lists every counted rule exactly if there is no loop, and is then a fit order. Assumes nothing.
use Rattle.std.specs.Prelude.{◌≡◌, ◌≢◌, ◌⊎◌, ◌↔◌, Bool, true, false, ◌&&◌, ◌||◌, List, [], ◌∷◌, eqb, length}
use Rattle.std.proofs.Math.Path.{refl}
use Rattle.std.proofs.Common.{sym, subst, arith}
use Rattle.std.proofs.Math.Logic.{inl, inr, ⊎_elim}
use Rattle.std.proofs.Math.Bool.{not}
use Prim.Native.Nat.{ℕ, zero, suc, ◌≤◌, ◌<◌}
use borrow.Author.Tests.{eqb-true, eqb-false, eq-eqb, ne_eqb, not-true}
use Rattle.general.specs.Cases.{contra, cases, all3, both, neither, or_right, not_so, lt-suc}
use Rattle.general.specs.Below.{every, every-at, every_of, first-is}
use Rattle.order_theory.specs.Order.{Net, Counted, counted_rules, Mem, Distinct, before, Respects, Fit, Chain, NoLoop}
use Rattle.closure.specs.Closure.{within, trans, wider}
use Rattle.order_theory.specs.Loops.{leads}
use Rattle.order_theory.proofs.Loops.{leads-of, loop-found}
use Rattle.order_theory.specs.Written.{Written, none, write, left_less, listed-length}
use Rattle.order_theory.specs.Running.{unwritten, unwritten_first, ready, next, greedy, running_order, turn}

-- ---- a least one of what passes a test

abbrev Least : (ℕ → ℕ → Bool) → (ℕ → Bool) → ℕ → Type 0
Least lt g k = (r : ℕ) × (r < k) × (g r ≡ true) × ((p : ℕ) → p < k → g p ≡ true → lt p r ≡ false)

module _ (n : ℕ) (lt : ℕ → ℕ → Bool) (g : ℕ → Bool) (irr : (p : ℕ) → p < n → lt p p ≡ false)
    (tra : (p q r : ℕ) → q < n → g q ≡ true → lt p q ≡ true → lt q r ≡ true → lt p r ≡ true) where
  least : (k : ℕ) → k ≤ n → Least lt g k ⊎ ((p : ℕ) → p < k → g p ≡ false)
  least zero z = inr (λ p h. absurd (omega arith))
  least (suc k) z =
      cases (g k)
      (λ e. inl (⊎_elim
      (λ l. cases (lt k l.0)
      (λ x. (k, omega arith, e, λ p h u. lt-suc h (λ q. rw q (irr k z)) (λ i. cases (lt p k) (λ y. contra (tra p k l.0 z e y x) (l.3 p i u)) (λ y. y))))
      (λ x. (l.0, omega (arith, l.1), l.2, λ p h u. lt-suc h (λ q. rw q x) (λ i. l.3 p i u))))
      (λ f. (k, omega arith, e, λ p h u. lt-suc h (λ q. rw q (irr k z)) (λ i. contra u (f p i)))) (least k (omega arith))))
      (λ e. ⊎_elim (λ l. inl (l.0, omega (arith, l.1), l.2, λ p h u. lt-suc h (λ q. contra (rw q at u) e) (λ i. l.3 p i u)))
      (λ f. inr (λ p h. lt-suc h (λ q. rw q e) (f p))) (least k (omega arith)))

-- ---- the running order

module _ (N : Net) where
  -- once a counted rule is written, there is one less
  pub unwritten-less : (d : Written) (r : ℕ) → Counted N r → d r ≡ false → unwritten N d ≡ suc (unwritten N (write d r))
  unwritten-less d r c e = left_less N.counts d N.count r c.0 c.1 e

  pub ready-is : (d : Written) (r : ℕ) → ready N d r ≡ true → (d r ≡ false) × ((p : ℕ) → Counted N p → d p ≡ false → before N p r ≡ false) × (N.counts r ≡ true)
  unfolding ready
  ready-is d r e =
      let t = all3 (N.counts r) (not (d r)) (every N.count (λ p. not (N.counts p && before N p r) || d p)) e in (
        cases (d r) (λ x. contra (rw x at t.1) refl) (λ x. x),
        λ p c u. cases (before N p r)
            (λ x. contra (rw (c.1, x, u) at (every-at N.count (λ p. not (N.counts p && before N p r) || d p) p t.2 c.0)) refl) (λ x. x),
        t.0,
      )

  pub is-ready : (d : Written) (r : ℕ) → N.counts r ≡ true → d r ≡ false → ((p : ℕ) → Counted N p → d p ≡ false → before N p r ≡ false) → ready N d r ≡ true
  unfolding ready
  is-ready d r c e h =
      rw (
        c,
        e,
        every_of N.count (λ p. not (N.counts p && before N p r) || d p) (λ p i. cases (N.counts p)
            (λ y. cases (d p) (λ x. or_right (not (N.counts p && before N p r)) (d p) x) (λ x. rw (y, h p (i, y) x))) (λ y. rw y)),
      )

  -- where the order goes on, a ready rule is next
  picked : (d : Written) → eqb (next N d) N.count ≡ false → Counted N (next N d) × (d (next N d) ≡ false) × ((p : ℕ) → Counted N p → d p ≡ false → before N p (next N d) ≡ false)
  picked d e =
      let l = first-is N.count (ready N d) in
      let i = l.fits in
      let n : next N d ≢ N.count = eqb-false (next N d) N.count e in
      let c : next N d < N.count = omega arith in
      let t = ready-is d (next N d) (l.passes c) in
      ((c, t.2), t.0, t.1)

  -- one step of any fact about the order: it ends, or a ready rule stands first
  unfolds : (P : List ℕ → Type 0) (f : ℕ) (d : Written) → P [] → (eqb (next N d) N.count ≡ false → P (next N d ∷ greedy N f (write d (next N d)))) → P (greedy N (suc f) d)
  unfolding greedy
  unfolds P f d z w = cases (eqb (next N d) N.count) (λ e. rw e z) (λ e. rw e (w e))

  -- what is listed is a counted rule that was not yet written
  pub fresh : (f : ℕ) (d : Written) (q : ℕ) → Mem q (greedy N f d) → Counted N q × (d q ≡ false)
  unfolding greedy
  fresh zero d q = absurd
  fresh (suc f) d q =
      unfolds (λ l. Mem q l → Counted N q × (d q ≡ false)) f d absurd
      (λ e. let t = picked d e in ⊎_elim (λ s. rw s (t.0, t.1)) (λ i. let u = fresh f (write d (next N d)) q i in (u.0, (neither (eqb q (next N d)) (d q) u.1).1)))

  pub greedy-respects : (f : ℕ) (d : Written) → Respects N (greedy N f d)
  unfolding greedy
  greedy-respects zero d = tt
  greedy-respects (suc f) d =
      unfolds (λ l. ((q : ℕ) → Mem q l → Counted N q × (d q ≡ false)) → Respects N l) f d (λ w. tt)
      (λ e w. (λ q i. (picked d e).2 q (w q i).0 (w q i).1, greedy-respects f (write d (next N d)))) (fresh (suc f) d)

  pub greedy-distinct : (f : ℕ) (d : Written) → Distinct (greedy N f d)
  unfolding greedy
  greedy-distinct zero d = tt
  greedy-distinct (suc f) d =
      unfolds Distinct f d tt
      (λ e. (λ i. contra (rw (eq-eqb (next N d) (next N d) refl)) (fresh f (write d (next N d)) (next N d) i).1, greedy-distinct f (write d (next N d))))

  no-loop-in : (k : List ℕ) → Respects N k → ((q : ℕ) → Counted N q → Chain N q q → Mem q k) → NoLoop N
  no-loop-in [] h w r j c = w r j c
  no-loop-in (x ∷ k) h w r j c =
      no-loop-in k h.1 (λ q i c. ⊎_elim
      (λ e. let (p, l, f, b) = turn N q i c in contra f (subst (λ y. before N p y ≡ false) (sym e) (h.0 p (w p l b)))) (λ m. m) (w q i c)) r j c

  pub fit-no-loop : (l : List ℕ) → Fit N l → NoLoop N
  fit-no-loop l fit = no-loop-in l fit.respects (λ q i c. fit.whole q i)

  -- ---- without a loop the order never stops early

  module _ (marks : ℕ) (small : (r : ℕ) → Counted N r → N.target r < marks) (acyclic : NoLoop N) where
    abbrev under : ℕ → ℕ → Bool
    under p q = within (leads N) marks (N.target p) (N.target q)

    some-ready : (d : Written) (q : ℕ) → Counted N q → d q ≡ false → eqb (next N d) N.count ≡ false
    some-ready d q i e =
        ⊎_elim
        (λ l.
        let (a, u) = waits l.0 l.2 in
        ne_eqb (next N d) N.count (λ z.
        contra (is-ready d l.0 a u (λ p k v. not_so (λ x.
        contra (wider (leads N) marks (N.target p) (N.target l.0) (leads-of N l.0 (N.target p) (l.1, a) x)) (l.3 p k.0 (rw (k.1, v))))))
        ((first-is N.count (ready N d)).lowest l.0 (rw z l.1))))
        (λ h. contra (rw (i.1, e)) (h q i.0))
        (least N.count under (λ p. N.counts p && not (d p))
        (λ p c. not_so (λ x. let o = (loop-found N marks small (N.target p)).1 x in acyclic o.0 o.1 o.3))
        (λ p q r c g x y. trans (leads N) marks (N.target p) (N.target q) (N.target r) (small q (c, (waits q g).0)) x y) N.count (omega arith))
      where
        waits : (p : ℕ) → (N.counts p && not (d p)) ≡ true → (N.counts p ≡ true) × (d p ≡ false)
        waits p g = let (x, y) = both (N.counts p) (not (d p)) g in (x, not-true (d p) y)

    greedy-whole : (f : ℕ) (d : Written) → unwritten N d ≤ f → (q : ℕ) → Counted N q → d q ≡ false → Mem q (greedy N f d)
    unfolding greedy
    greedy-whole zero d z q i e = absurd (omega (arith, unwritten-less d q i e))
    greedy-whole (suc f) d z q i e =
        let g = some-ready d q i e in
        let (c, u, v) = picked d g in
        rw g (cases (eqb q (next N d)) (λ x. inl (eqb-true q (next N d) x))
        (λ x. inr (greedy-whole f (write d (next N d)) (omega (arith, unwritten-less d (next N d) c u)) q i (rw (x, e)))))

  fit-if : ((q : ℕ) → Counted N q → Mem q (running_order N)) → Fit N (running_order N)
  unfolding running_order
  fit-if w = record {
    below = λ q i. (fresh (counted_rules N) none q i).0;
    whole = w;
    distinct = greedy-distinct (counted_rules N) none;
    respects = greedy-respects (counted_rules N) none;
  }

  module _ (marks : ℕ) (small : (r : ℕ) → Counted N r → N.target r < marks) where
    pub running-fit : NoLoop N → Fit N (running_order N)
    unfolding running_order
    running-fit h = fit-if (λ q i. greedy-whole marks small h (counted_rules N) none (omega (arith, unwritten_first N)) q i refl)

    pub running-whole : ((q : ℕ) → Counted N q → Mem q (running_order N)) ↔ NoLoop N
    running-whole = (λ w. fit-no-loop (running_order N) (fit-if w), λ h. (running-fit h).whole)

    pub running-length : NoLoop N → length (running_order N) ≡ counted_rules N
    running-length h = let f = running-fit h in listed-length N.count N.counts (running_order N) f.distinct f.below f.whole
