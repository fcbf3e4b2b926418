-- `vectors::show::word` meets its contract. Assumes nothing.
use Prim.Native.Nat.{◌≤◌, ◌-◌}
use borrow.Author.Rules.{rules}
use Rattle.vectors.proofs.show.word.Statement.{statement}
use Rattle.vectors.proofs.show.word.Tie as tie

abbrev invariant-loop : tie.invariant-loop-i
invariant-loop marks from set₀ i₀ set i = i ≤ 64

abbrev decreases-loop : tie.decreases-loop-i
decreases-loop marks from set₀ i₀ set i = 64 - i

pub word_spec : {M : Type 1} → statement M
word_spec =
    tie.close
    (tie.spec
    invariant-loop
    decreases-loop
    (λ c. search rules)
    (λ c. search rules)
    (λ c. search rules)
    (λ c κs. search rules)
    (λ c. search rules)
    (λ c. search rules)
    (λ c. search rules)
    (λ c. search rules))
