-- `settled::charts::plain` meets its contract. Assumes nothing.
use Prim.Native.Nat.{◌≤◌, ◌-◌}
use borrow.Author.Rules.{rules}
use lib.ListN.{length}
use mathlib.Core.Path.{◌≡◌}
use Rattle.settled.proofs.charts.plain.Statement.{statement}
use Rattle.settled.proofs.charts.plain.Tie as tie

abbrev invariant-loop : tie.invariant-loop-i
invariant-loop events image₀ end i₀ image i = (i ≤ 257) × (length image ≡ 1036)

abbrev decreases-loop : tie.decreases-loop-i
decreases-loop events image₀ end i₀ image i = 257 - i

pub plain_spec : {M : Type 1} → statement M
plain_spec =
    tie.close
    (tie.spec
    invariant-loop
    decreases-loop
    (λ c. search rules)
    (λ c. search rules)
    (λ c. search rules)
    (λ c. search rules)
    (λ c. search rules)
    (λ c. search rules)
    (λ c. search rules)
    (λ c. search rules)
    (λ c. search rules)
    (λ c. search rules)
    (λ c. search rules)
    (λ c. search rules)
    (λ c. search rules)
    (λ c. search rules)
    (λ c. search rules)
    (λ c. search rules)
    (λ c. search rules)
    (λ c. search rules)
    (λ c. search rules)
    (λ c. search rules)
    (λ c. search rules)
    (λ c. search rules)
    (λ c. search rules)
    (λ c. search rules)
    (λ c. search rules))
