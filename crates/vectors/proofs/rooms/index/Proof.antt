-- `vectors::rooms::index` meets its contract. Assumes nothing.
use borrow.Author.Rules.{rules}
use lib.ListN.{length-take}
use native.Mathlib.Omega.{arith}
use Rattle.vectors.proofs.rooms.index.Statement.{statement}
use Rattle.vectors.proofs.rooms.index.Tie as tie

pub index_spec : {M : Type 1} → statement M
index_spec =
    tie.close
    (tie.spec
    (λ c κs. search rules)
    (λ c. search rules)
    (λ c. simp length-take (omega arith))
    (λ c κs. search rules)
    (λ c. search rules)
    (λ c. search rules))
