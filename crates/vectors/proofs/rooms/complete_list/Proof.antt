-- `vectors::rooms::complete_list` meets its contract. Assumes nothing.
use borrow.Author.Rules.{rules}
use lib.ListN.{length-take}
use native.Mathlib.Omega.{arith}
use Rattle.vectors.proofs.rooms.complete_list.Statement.{statement}
use Rattle.vectors.proofs.rooms.complete_list.Tie as tie

pub complete_list_spec : {M : Type 1} → statement M
complete_list_spec =
    tie.close
    (tie.spec
    (λ c. simp length-take (omega arith))
    (λ c κs. search rules)
    (λ c. search rules))
