-- `vectors::adler::of_bytes` meets its contract. Assumes nothing.
use Prim.Native.Nat.{◌≤◌, ◌<◌, ◌-◌}
use borrow.Author.Rules.{rules}
use Rattle.vectors.proofs.adler.of_bytes.Statement.{statement}
use Rattle.vectors.proofs.adler.of_bytes.Tie as tie

abbrev invariant-loop : tie.invariant-loop-i
invariant-loop bytes n s₀ i₀ s i = (i ≤ n) × (s.low < 65521) × (s.high < 65521)

abbrev decreases-loop : tie.decreases-loop-i
decreases-loop bytes n s₀ i₀ s i = n - i

pub of_bytes_spec : {M : Type 1} → statement M
of_bytes_spec =
    tie.close
    (tie.spec
    invariant-loop
    decreases-loop
    (λ c. search rules)
    (λ c. search rules)
    (λ c κs. search rules)
    (λ c. search rules)
    (λ c. search rules)
    (λ c. search rules)
    (λ c κs. search rules)
    (λ c. search rules))
