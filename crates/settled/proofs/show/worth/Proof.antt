-- `settled::show::worth` meets its contract. Assumes nothing.
use Prim.Native.Nat.{◌≤◌, ◌-◌}
use borrow.Author.Rules.{rules}
use Rattle.settled.proofs.show.worth.Statement.{statement}
use Rattle.settled.proofs.show.worth.Tie as tie

abbrev invariant-loop : tie.invariant-loop-m
invariant-loop marks from word₀ m₀ word m = m ≤ 64

abbrev decreases-loop : tie.decreases-loop-m
decreases-loop marks from word₀ m₀ word m = 64 - m

pub worth_spec : {M : Type 1} → statement M
worth_spec =
    tie.close
    (tie.spec
    invariant-loop
    decreases-loop
    (λ c. search rules)
    (λ c. search rules)
    (λ c. search rules)
    (λ c κs. search rules)
    (λ c. search rules)
    (λ c. search rules)
    (λ c. search rules)
    (λ c. search rules))
