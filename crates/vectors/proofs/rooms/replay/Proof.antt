-- `vectors::rooms::replay` meets its contract. Assumes nothing.
use borrow.Author.Rules.{rules}
use lib.ListN.{length-take}
use native.Mathlib.Omega.{arith}
use Rattle.vectors.proofs.rooms.replay.Statement.{statement}
use Rattle.vectors.proofs.rooms.replay.Tie as tie

pub replay_spec : {M : Type 1} → statement M
replay_spec =
    tie.close
    (tie.spec
    (λ c. simp length-take (omega arith))
    (λ c κs. search rules)
    (λ c. search rules))
