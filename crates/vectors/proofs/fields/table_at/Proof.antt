-- `vectors::fields::table_at` meets its contract. Assumes nothing.
use Prim.Native.Nat.{◌≤◌, ◌-◌}
use borrow.Author.Rules.{rules}
use lib.ListN.{length}
use mathlib.Core.Path.{◌≡◌}
use Rattle.vectors.proofs.fields.table_at.Statement.{statement}
use Rattle.vectors.proofs.fields.table_at.Tie as tie

abbrev invariant-loop : tie.invariant-loop-i
invariant-loop body at table₀ i₀ table i = (i ≤ 1024) × (length table ≡ 1024)

abbrev decreases-loop : tie.decreases-loop-i
decreases-loop body at table₀ i₀ table i = 1024 - i

pub table_at_spec : {M : Type 1} → statement M
table_at_spec =
    tie.close
    (tie.spec
    invariant-loop
    decreases-loop
    (λ c. search rules)
    (λ c. search rules)
    (λ c. search rules)
    (λ c κs. search rules)
    (λ c. search rules)
    (λ c. search rules)
    (λ c. search rules)
    (λ c. search rules)
    (λ c. search rules)
    (λ c. search rules))
