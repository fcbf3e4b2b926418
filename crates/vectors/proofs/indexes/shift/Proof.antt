-- `vectors::indexes::shift` meets its contract. Assumes nothing.
use borrow.Author.Rules.{rules}
use Prim.Native.Nat.{◌≤◌, ◌-◌}
use lib.ListN.{length}
use mathlib.Core.Path.{◌≡◌}
use Rattle.vectors.proofs.indexes.shift.Statement.{statement}
use Rattle.vectors.proofs.indexes.shift.Tie as tie

abbrev invariant-loop : tie.invariant-loop-i
invariant-loop room₀ from n i₀ room i = (i ≤ n) × (length room ≡ length room₀)

abbrev decreases-loop : tie.decreases-loop-i
decreases-loop room₀ from n i₀ room i = n - i

pub shift_spec : {M : Type 1} → statement M
shift_spec =
    tie.close
    (tie.spec
    invariant-loop
    decreases-loop
    (λ c. search rules)
    (λ c. search rules)
    (λ c. search rules)
    (λ c. search rules)
    (λ c. search rules)
    (λ c. search rules)
    (λ c. search rules)
    (λ c. search rules)
    (λ c. search rules))
