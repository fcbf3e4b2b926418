-- What the function that judges a condition says, at the place of condition c. Assumes nothing.
use mathlib.Core.Path.{◌≡◌, ap, subst, ◌∙◌}
use mathlib.Core.Bool.{Bool}
use mathlib.Core.List.{List}
use Prim.Native.Nat.{ℕ, ◌+◌, ◌*◌}
use Rattle.paper.specs.Limits.{condition_size}
use Rattle.book.specs.Image.{rule_place, condition_place}
use Rattle.book.specs.Judging.{condition_fits}
use Rattle.texts.specs.Noted.{Added, record_words}

-- the image has R rules and Q conditions
module _ (R Q : ℕ) (s : List ℕ) (c from begin : ℕ) (p : begin ≡ rule_place R) (q : from ≡ condition_place R Q) where
  pub condition-at : (M W : ℕ) (t : Bool) → t ≡ condition_fits M W from s (begin + condition_size * c) → t ≡ condition_fits M W (condition_place R Q) s (condition_place R c)
  condition-at M W t e = e ∙ ap (λ (x : ℕ). condition_fits M W x s (begin + condition_size * c)) q
      ∙ ap (λ (x : ℕ). condition_fits M W (condition_place R Q) s (x + condition_size * c)) p

  pub names_at : (named after : List ℕ) → Added named (record_words s from (begin + condition_size * c)) after → Added named (record_words s (condition_place R Q) (condition_place R c)) after
  names_at named after a =
      subst (λ (x : ℕ). Added named (record_words s (condition_place R Q) (x + condition_size * c)) after) p
      (subst (λ (x : ℕ). Added named (record_words s x (begin + condition_size * c)) after) q a)
