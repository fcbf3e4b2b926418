-- Laws of earlier proofs, which stood in specs/: nothing cites them now, and they stand. Assumes nothing.
use Rattle.std.specs.Prelude.{ℕ, ◌≤◌, ◌≡◌, Bool, List}
use Rattle.std.proofs.Common.{◌∙◌}
use Rattle.std.proofs.Math.Path.{ap}
use native.Mathlib.Omega.{arith}
use Rattle.std.proofs.lemmas.List.Edits.{sets}
use Rattle.sets.specs.Set.{has}
use Rattle.general.specs.Lists.{each}

pub marks-all : (start marks : List Bool) (at set e n : ℕ) → e ≤ n → n ≤ e → marks ≡ sets start at (each e (has set)) → marks ≡ sets start at (each n (has set))
marks-all start marks at set e n h l p = let z : e ≡ n = omega arith in p ∙ ap (λ (k : ℕ). sets start at (each k (has set))) z
