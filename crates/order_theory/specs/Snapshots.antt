-- The snapshot as a list of marks, as code holds it, and a run that alters it where it stands. Assumes nothing.
use Rattle.std.specs.Prelude.{◌≡◌, Bool, cond, ℕ, ◌+◌, ◌≤◌, ◌<◌, eqb, length, get_or, set, drop}
use Rattle.std.proofs.Math.Path.{refl, fun_ext}
use Rattle.std.proofs.Common.{◌∙◌, inl, inr, add-one, length-set, drop_of_length-le, get_or-set_same, get_or-set_other, ext_get_or, drop-cons, eqb-true}
use Rattle.std.proofs.Math.Bool.{false}
use mathlib.Core.List.{List, [], ◌∷◌}
use Rattle.std.proofs.lemmas.Bool.{eqb-false}
use Rattle.paper.specs.Snapshots.{snap_of}
use Rattle.general.specs.Cases.{cases}
use Rattle.order_theory.specs.Order.{Net, Mem}
use Rattle.order_theory.specs.Settle.{Acts, step, run}

pub at_same : (k l : List Bool) → length k ≡ length l → ((m : ℕ) → snap_of k m ≡ snap_of l m) → k ≡ l
at_same k l e h = ext_get_or false k l e (λ i c. h i)

module _ (N : Net) (A : Acts N) where
  unfoldable pub step_l : List Bool → ℕ → List Bool
  step_l l r = cond (A.fires (snap_of l) r) (set l (N.target r) (A.effect r)) l

  unfoldable pub run_l : List Bool → List ℕ → List Bool
  run_l l [] = l
  run_l l (r ∷ o) = run_l (step_l l r) o

  pub length-step_l : (l : List Bool) (r : ℕ) → length (step_l l r) ≡ length l
  unfolding step_l
  length-step_l l r = cases (A.fires (snap_of l) r) (λ e. rw e (length-set l (N.target r) (A.effect r))) (λ e. rw e)

  pub at-step_l : (l : List Bool) (r : ℕ) → N.target r < length l → snap_of (step_l l r) ≡ step N A (snap_of l) r
  unfolding step_l step
  at-step_l l r h = fun_ext (λ m. cases (A.fires (snap_of l) r)
      (λ f. cases (eqb m (N.target r))
      (λ e. rw (f, e) (rw (eqb-true m (N.target r) e) (get_or-set_same l (N.target r) (A.effect r) false h)))
      (λ e. rw (f, e) (get_or-set_other l (N.target r) m (A.effect r) false (eqb-false m (N.target r) e))))
      (λ f. cases (eqb m (N.target r)) (λ e. rw (f, e)) (λ e. rw (f, e))))

  pub length-run_l : (o : List ℕ) (l : List Bool) → length (run_l l o) ≡ length l
  unfolding run_l
  length-run_l [] l = refl
  length-run_l (r ∷ o) l = length-run_l o (step_l l r) ∙ length-step_l l r

  pub at-run_l : (o : List ℕ) (l : List Bool) → ((q : ℕ) → Mem q o → N.target q < length l) → snap_of (run_l l o) ≡ run N A (snap_of l) o
  unfolding run_l run
  at-run_l [] l h = refl
  at-run_l (r ∷ o) l h = at-run_l o (step_l l r) (λ q i. rw (length-step_l l r) (h q (inr i))) ∙ rw (at-step_l l r (h r (inl refl)))

  -- the turns of a loop along the order
  pub run_l-on : (o : List ℕ) (l : List Bool) (j : ℕ) → j < length o → run_l l (drop j o) ≡ run_l (step_l l (get_or o j 0)) (drop (j + 1) o)
  unfolding run_l
  run_l-on o l j h = rw (drop-cons o j 0 h, add-one)

  pub run_l-end : (o : List ℕ) (l : List Bool) (j : ℕ) → length o ≤ j → run_l l (drop j o) ≡ l
  unfolding run_l
  run_l-end o l j h = rw (drop_of_length-le o h)
