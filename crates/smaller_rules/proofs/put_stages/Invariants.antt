use Rattle.std.proofs.Common.{◌≡◌, ℕ, List}
use Rattle.book.specs.ImageOf.{rule_bytes}
use Rattle.smaller.specs.Runs.{condition_by, stage_by}
use Rattle.smaller.specs.Loops.{Upto}
use Rattle.smaller_rules.proofs.put_stages.Given as goal

-- the rules of the stages passed are run, and condition is the number of the next condition
pub record Passed (sizes : List ℕ) (n : ℕ) (room₀ : List ℕ) (at e next : ℕ) (room : List ℕ) (condition : ℕ) : Type 0 where
  pub ran : Upto rule_bytes (stage_by sizes) n room₀ at e next room
  pub number : condition ≡ condition_by sizes e

abbrev pub invariant-loop-e : goal.invariant-loop-e
invariant-loop-e l = Passed l.sizes l.n l.fn.room l.at l.e l.next l.room l.condition
