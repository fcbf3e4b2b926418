-- `vectors::fields::roles_at` meets its contract. Assumes nothing.
use Prim.Native.Nat.{◌≤◌, ◌-◌}
use borrow.Author.Rules.{rules}
use lib.ListN.{length}
use Rattle.paper.specs.Limits.{max_events}
use mathlib.Core.Path.{◌≡◌}
use Rattle.vectors.proofs.fields.roles_at.Statement.{statement}
use Rattle.vectors.proofs.fields.roles_at.Tie as tie

abbrev invariant-loop : tie.invariant-loop-e
invariant-loop body at roles₀ e₀ roles e = (e ≤ max_events) × (length roles ≡ max_events)

abbrev decreases-loop : tie.decreases-loop-e
decreases-loop body at roles₀ e₀ roles e = max_events - e

pub roles_at_spec : {M : Type 1} → statement M
roles_at_spec =
    tie.close
    (tie.spec
    invariant-loop
    decreases-loop
    (λ c. search rules)
    (λ c. search rules)
    (λ c. search rules)
    (λ c. search rules)
    (λ c. search rules)
    (λ c. search rules)
    (λ c. search rules)
    (λ c. search rules))
