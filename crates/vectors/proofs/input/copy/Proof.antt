-- `vectors::input::copy` meets its contract. Assumes nothing.
use borrow.Author.Rules.{rules}
use Prim.Native.Nat.{◌≤◌, ◌-◌}
use lib.ListN.{length}
use mathlib.Core.Path.{◌≡◌}
use Rattle.vectors.proofs.input.copy.Statement.{statement}
use Rattle.vectors.proofs.input.copy.Tie as tie

abbrev invariant-loop : tie.invariant-loop-i
invariant-loop from to₀ n i₀ to i = (i ≤ n) × (length to ≡ length to₀)

abbrev decreases-loop : tie.decreases-loop-i
decreases-loop from to₀ n i₀ to i = n - i

pub copy_spec : {M : Type 1} → statement M
copy_spec =
    tie.close
    (tie.spec
    invariant-loop
    decreases-loop
    (λ c. search rules)
    (λ c. search rules)
    (λ c. search rules)
    (λ c. search rules)
    (λ c. search rules)
    (λ c. search rules)
    (λ c. search rules)
    (λ c. search rules))
