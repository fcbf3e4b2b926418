-- `vectors::adler::of_table` meets its contract. Assumes nothing.
use borrow.Author.Rules.{rules}
use Prim.Native.Nat.{◌≤◌, ◌<◌, ◌-◌}
use Rattle.paper.specs.Limits.{max_marks}
use Rattle.vectors.proofs.adler.of_table.Statement.{statement}
use Rattle.vectors.proofs.adler.of_table.Tie as tie

abbrev invariant-loop : tie.invariant-loop-m
invariant-loop table s₀ m₀ s m = (m ≤ max_marks) × (s.low < 65521) × (s.high < 65521)

abbrev decreases-loop : tie.decreases-loop-m
decreases-loop table s₀ m₀ s m = max_marks - m

pub of_table_spec : {M : Type 1} → statement M
of_table_spec =
    tie.close
    (tie.spec
    invariant-loop
    decreases-loop
    (λ c. search rules)
    (λ c. search rules)
    (λ c. search rules)
    (λ c κs. search rules)
    (λ c. search rules)
    (λ c. search rules)
    (λ c. search rules)
    (λ c κs. search rules)
    (λ c. search rules))
