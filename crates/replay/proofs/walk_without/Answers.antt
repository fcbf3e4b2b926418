use Rattle.std.proofs.Common.{arith}
use Rattle.replay.proofs.Calls.{walk_fit}
use Rattle.replay.proofs.walk_without.Goals as goal

pub walk-requires : goal.walk-requires
walk-requires c = (walk_fit _ _ _ _ _ _ c.walk-before.ensures c.requires.0, omega arith, omega arith)
