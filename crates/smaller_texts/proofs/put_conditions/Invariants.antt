use Rattle.std.proofs.Common.{◌≡◌, ℕ, List, get_or}
use Rattle.general.specs.Lists.{total}
use Rattle.book.specs.ImageOf.{condition_bytes}
use Rattle.smaller.specs.Runs.{record_by}
use Rattle.smaller.specs.Loops.{Upto}
use Rattle.smaller_texts.proofs.put_conditions.Given as goal

-- the records of the texts passed are run, and start is where the next text starts
pub record Passed (sizes : List ℕ) (n : ℕ) (room₀ : List ℕ) (at e next : ℕ) (room : List ℕ) (start : ℕ) : Type 0 where
  pub ran : Upto condition_bytes (record_by sizes) n room₀ at e next room
  pub before : start ≡ total e (λ k. get_or sizes k 0)

abbrev pub invariant-loop-e : goal.invariant-loop-e
invariant-loop-e l = Passed l.sizes l.n l.fn.room l.at l.e l.next l.room l.start
