-- `vectors::rooms::strike` meets its contract. Assumes nothing.
use borrow.Author.Rules.{rules}
use lib.ListN.{length-take}
use native.Mathlib.Omega.{arith}
use Rattle.vectors.proofs.rooms.strike.Statement.{statement}
use Rattle.vectors.proofs.rooms.strike.Tie as tie

pub strike_spec : {M : Type 1} → statement M
strike_spec =
    tie.close
    (tie.spec
    (λ c. simp length-take (omega arith))
    (λ c κs. search rules)
    (λ c. search rules))
