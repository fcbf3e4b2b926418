-- `vectors::rooms::mend` meets its contract. Assumes nothing.
use borrow.Author.Rules.{rules}
use lib.ListN.{length-take}
use native.Mathlib.Omega.{arith}
use Rattle.vectors.proofs.rooms.mend.Statement.{statement}
use Rattle.vectors.proofs.rooms.mend.Tie as tie

pub mend_spec : {M : Type 1} → statement M
mend_spec =
    tie.close
    (tie.spec
    (λ c κs. search rules)
    (λ c κs. search rules)
    (λ c. search rules)
    (λ c. simp length-take (omega arith))
    (λ c. search rules)
    (λ c. simp length-take (omega arith))
    (λ c κs. search rules)
    (λ c. search rules)
    (λ c. search rules)
    (λ c. search rules))
