-- A mark is targeted by a rule on a loop exactly if the closure of the table of references has it reach itself. Assumes nothing.
use Rattle.std.specs.Prelude.{Bool, ◌&&◌, ℕ}
use Rattle.std.proofs.Math.Dec.{eqb}
use Rattle.general.specs.Below.{some, first}
use Rattle.closure.specs.Closure.{within}
use Rattle.order_theory.specs.Order.{Net}

module _ (N : Net) where
  -- some counted rule refers to a and targets b
  unfoldable pub leads : ℕ → ℕ → Bool
  leads a b = some N.count (λ r. N.counts r && (N.refers r a && eqb (N.target r) b))

  -- "lowest mark targeted by a rule on a loop", or marks: the lowest mark that reaches itself over the marks that rules refer to and target
  abbrev pub loop_mark : ℕ → ℕ
  loop_mark marks = first marks (λ m. within leads marks m m)
