-- `vectors::rooms::fill` meets its contract. Assumes nothing.
use borrow.Author.Rules.{rules}
use Prim.Native.Nat.{◌≤◌, ◌-◌}
use lib.ListN.{length}
use mathlib.Core.Path.{◌≡◌}
use Rattle.vectors.proofs.rooms.fill.Statement.{statement}
use Rattle.vectors.proofs.rooms.fill.Tie as tie

abbrev invariant-loop : tie.invariant-loop-i
invariant-loop room₀ n i₀ room i = (i ≤ n) × (length room ≡ length room₀)

abbrev decreases-loop : tie.decreases-loop-i
decreases-loop room₀ n i₀ room i = n - i

pub fill_spec : {M : Type 1} → statement M
fill_spec =
    tie.close
    (tie.spec
    invariant-loop
    decreases-loop
    (λ c. search rules)
    (λ c. search rules)
    (λ c. search rules)
    (λ c. search rules)
    (λ c. search rules)
    (λ c. search rules)
    (λ c. search rules))
