-- The fit test in one pass: an order is fit exactly if it has as many entries as there are counted rules and each entry is a rule that is
-- ready where the entries before it are written. Assumes nothing.
use Rattle.std.specs.Prelude.{◌≡◌, Bool, true, false, ◌&&◌, ℕ, ◌+◌, ◌≤◌, ◌<◌, eqb, ltb, length, get_or, drop}
use mathlib.Core.List.{List, [], ◌∷◌}
use Rattle.std.proofs.Common.{add-one, drop_of_length-le, drop-cons}
use Rattle.order_theory.specs.Order.{Net, counted_rules}
use Rattle.order_theory.specs.Written.{Written, none, write}
use Rattle.order_theory.specs.Running.{ready}

module _ (N : Net) where
  -- r may stand next where d is written: it is a rule, it counts, it is unwritten, and nothing counted and unwritten, itself included, comes
  -- before it
  unfoldable pub fine : Written → ℕ → Bool
  fine d r = ltb r N.count && ready N d r

  unfoldable pub passes : Written → List ℕ → Bool
  passes d [] = true
  passes d (r ∷ l) = fine d r && passes (write d r) l

  unfoldable pub fit_pass : List ℕ → Bool
  fit_pass l = eqb (length l) (counted_rules N) && passes none l

  -- ---- the turns of a loop along the order

  pub passes-end : (l : List ℕ) (d : Written) (j : ℕ) → length l ≤ j → passes d (drop j l) ≡ true
  unfolding passes
  passes-end l d j h = rw (drop_of_length-le l h)

  pub passes_on : (l : List ℕ) (d : Written) (j : ℕ) → j < length l → fine d (get_or l j 0) ≡ true → passes d (drop j l) ≡ passes (write d (get_or l j 0)) (drop (j + 1) l)
  unfolding passes
  passes_on l d j h e = rw (drop-cons l j 0 h, e, add-one)

  pub passes-stop : (l : List ℕ) (d : Written) (j : ℕ) → j < length l → fine d (get_or l j 0) ≡ false → passes d (drop j l) ≡ false
  unfolding passes
  passes-stop l d j h e = rw (drop-cons l j 0 h, e)
