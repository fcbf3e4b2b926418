-- `vectors::rooms::derive_smaller` meets its contract. Assumes nothing.
use borrow.Author.Rules.{rules}
use lib.ListN.{length-take}
use native.Mathlib.Omega.{arith}
use Rattle.vectors.proofs.rooms.derive_smaller.Statement.{statement}
use Rattle.vectors.proofs.rooms.derive_smaller.Tie as tie

pub derive_smaller_spec : {M : Type 1} → statement M
derive_smaller_spec =
    tie.close
    (tie.spec
    (λ c κs. search rules)
    (λ c. search rules)
    (λ c. simp length-take (omega arith))
    (λ c κs. search rules)
    (λ c. search rules)
    (λ c. search rules))
