-- `vectors::rooms::check` meets its contract. Assumes nothing.
use borrow.Author.Rules.{rules}
use lib.ListN.{length-take}
use native.Mathlib.Omega.{arith}
use Rattle.vectors.proofs.rooms.check.Statement.{statement}
use Rattle.vectors.proofs.rooms.check.Tie as tie

pub check_spec : {M : Type 1} → statement M
check_spec =
    tie.close
    (tie.spec
    (λ c κs. search rules)
    (λ c. search rules)
    (λ c. simp length-take (omega arith))
    (λ c κs. search rules)
    (λ c. search rules)
    (λ c. search rules))
