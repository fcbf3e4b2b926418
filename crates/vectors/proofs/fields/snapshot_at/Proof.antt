-- `vectors::fields::snapshot_at` meets its contract. Assumes nothing.
use Prim.Native.Nat.{◌≤◌, ◌-◌}
use borrow.Author.Rules.{rules}
use lib.ListN.{length}
use Rattle.paper.specs.Limits.{max_marks}
use mathlib.Core.Path.{◌≡◌}
use Rattle.vectors.proofs.fields.snapshot_at.Statement.{statement}
use Rattle.vectors.proofs.fields.snapshot_at.Tie as tie

abbrev invariant-loop : tie.invariant-loop-m
invariant-loop body at marks₀ m₀ marks m = (m ≤ max_marks) × (length marks ≡ max_marks)

abbrev decreases-loop : tie.decreases-loop-m
decreases-loop body at marks₀ m₀ marks m = max_marks - m

pub snapshot_at_spec : {M : Type 1} → statement M
snapshot_at_spec =
    tie.close
    (tie.spec
    invariant-loop
    decreases-loop
    (λ c. search rules)
    (λ c. search rules)
    (λ c. search rules)
    (λ c κs. search rules)
    (λ c κs. search rules)
    (λ c. search rules)
    (λ c. search rules)
    (λ c. search rules)
    (λ c. search rules)
    (λ c. search rules))
