-- `vectors::fields::numbers_at` meets its contract. Assumes nothing.
use borrow.Author.Rules.{rules}
use Prim.Native.Nat.{◌≤◌, ◌-◌}
use lib.ListN.{length}
use mathlib.Core.Path.{◌≡◌}
use Rattle.vectors.proofs.fields.numbers_at.Statement.{statement}
use Rattle.vectors.proofs.fields.numbers_at.Tie as tie

abbrev invariant-loop : tie.invariant-loop-i
invariant-loop body at n room₀ i₀ room i = (i ≤ n) × (length room ≡ length room₀)

abbrev decreases-loop : tie.decreases-loop-i
decreases-loop body at n room₀ i₀ room i = n - i

pub numbers_at_spec : {M : Type 1} → statement M
numbers_at_spec =
    tie.close
    (tie.spec
    invariant-loop
    decreases-loop
    (λ c. search rules)
    (λ c. search rules)
    (λ c. search rules)
    (λ c κs. search rules)
    (λ c. search rules)
    (λ c. search rules)
    (λ c. search rules)
    (λ c. search rules)
    (λ c. search rules)
    (λ c. search rules)
    (λ c. search rules))
