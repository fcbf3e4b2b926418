-- `vectors::rooms::complete` meets its contract. Assumes nothing.
use borrow.Author.Rules.{rules}
use lib.ListN.{length-take}
use native.Mathlib.Omega.{arith}
use Rattle.vectors.proofs.rooms.complete.Statement.{statement}
use Rattle.vectors.proofs.rooms.complete.Tie as tie

pub complete_spec : {M : Type 1} → statement M
complete_spec =
    tie.close
    (tie.spec
    (λ c. simp length-take (omega arith))
    (λ c κs. search rules)
    (λ c. search rules))
