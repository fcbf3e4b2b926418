-- The fit test in one pass: an order is fit exactly if it has as many entries as there are counted rules and each entry is a rule that is
-- ready where the entries before it are written. Assumes nothing.
use Rattle.std.specs.Prelude.{◌≡◌, ◌⊎◌, ◌↔◌, true, false, ℕ, eqb, ltb, length}
use Rattle.std.proofs.Math.Path.{refl}
use Rattle.std.proofs.Math.Logic.{inl, inr, ⊎_elim}
use mathlib.Core.List.{List, [], ◌∷◌}
use borrow.Author.Tests.{eqb-true, eq-eqb, ne_eqb, ltb-true, lt-ltb}
use Rattle.general.specs.Cases.{contra, cases, both, neither}
use Rattle.order_theory.specs.Order.{Net, Counted, counted_rules, Mem, Distinct, Respects, Fit}
use Rattle.order_theory.specs.Written.{Written, none, write, each-listed, listed-length}
use Rattle.order_theory.specs.Running.{ready}
use Rattle.order_theory.proofs.Running.{ready-is, is-ready}
use Rattle.order_theory.specs.Pass.{fine, passes, fit_pass}

module _ (N : Net) where
  fine-is : (d : Written) (r : ℕ) → fine N d r ≡ true → Counted N r × (ready N d r ≡ true)
  unfolding fine
  fine-is d r e = let (x, y) = both (ltb r N.count) (ready N d r) e in ((ltb-true r N.count x, (ready-is N d r y).2), y)

  -- ---- it is the fit test

  pass-fresh : (l : List ℕ) (d : Written) → passes N d l ≡ true → (q : ℕ) → Mem q l → Counted N q × (d q ≡ false)
  unfolding passes
  pass-fresh [] d e q i = absurd i
  pass-fresh (r ∷ l) d e q i =
      let (x, y) = both (fine N d r) (passes N (write d r) l) e in
      let (c, z) = fine-is d r x in
      let t = pass-fresh l (write d r) y q in
      ⊎_elim (λ s. rw s (c, (ready-is N d r z).0)) (λ j. let u = t j in (u.0, (neither (eqb q r) (d q) u.1).1)) i

  pass-distinct : (l : List ℕ) (d : Written) → passes N d l ≡ true → Distinct l
  unfolding passes
  pass-distinct [] d e = tt
  pass-distinct (r ∷ l) d e =
      let (x, y) = both (fine N d r) (passes N (write d r) l) e in
      (λ i. contra (rw (eq-eqb r r refl)) (pass-fresh l (write d r) y r i).1, pass-distinct l (write d r) y)

  pass-respects : (l : List ℕ) (d : Written) → passes N d l ≡ true → Respects N l
  unfolding passes
  pass-respects [] d e = tt
  pass-respects (r ∷ l) d e =
      let (x, y) = both (fine N d r) (passes N (write d r) l) e in (
        λ q i. let (c, z) = pass-fresh (r ∷ l) d e q i in (ready-is N d r (fine-is d r x).1).1 q c z,
        pass-respects l (write d r) y,
      )

  pass_of : (l : List ℕ) (d : Written) → ((q : ℕ) → Counted N q → Mem q l ⊎ (d q ≡ true)) → ((q : ℕ) → Mem q l → Counted N q × (d q ≡ false))
      → Distinct l → Respects N l → passes N d l ≡ true
  unfolding passes fine
  pass_of [] d w h x s = refl
  pass_of (r ∷ l) d w h x s =
      let (c, z) = h r (inl refl) in
      rw (
        lt-ltb r N.count c.0,
        is-ready N d r c.1 z (λ p i u. ⊎_elim (λ m. s.0 p m) (λ t. contra t u) (w p i)),
        pass_of l (write d r)
            (λ q i. ⊎_elim (⊎_elim (λ e. inr (rw (eq-eqb q r e))) inl) (λ e. inr (cases (eqb q r) (λ y. rw y) (λ y. rw y e))) (w q i))
            (λ q i. ((h q (inr i)).0, rw (ne_eqb q r (λ e. x.0 (rw e at i))) (h q (inr i)).1)) x.1 s.1,
      )

  pub fit-pass : (l : List ℕ) → Fit N l ↔ (fit_pass N l ≡ true)
  unfolding fit_pass
  fit-pass l = (
    λ f. rw (
      eq-eqb (length l) (counted_rules N) (listed-length N.count N.counts l f.distinct f.below f.whole),
      pass_of l none (λ q i. inl (f.whole q i)) (λ q i. (f.below q i, refl)) f.distinct f.respects,
    ),
    λ e.
        let (x, y) = both (eqb (length l) (counted_rules N)) (passes N none l) e in
        let below : (q : ℕ) → Mem q l → Counted N q = λ q i. (pass-fresh l none y q i).0 in
        let distinct = pass-distinct l none y in
        record {
          below = below;
          whole = each-listed N.count N.counts l (eqb-true (length l) (counted_rules N) x) distinct below;
          distinct = distinct;
          respects = pass-respects l none y;
        },
  )
