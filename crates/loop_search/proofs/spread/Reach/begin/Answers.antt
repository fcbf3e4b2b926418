use Rattle.std.proofs.Common.{arith}
use Rattle.loop_search.proofs.Carrying.{beginning-first, beginning-more, beginning-last}
use Rattle.loop_search.proofs.Rounds.{asked-room}
use Rattle.loop_search.proofs.spread.Reach.begin.Goals as goal

pub loop-i-init : goal.loop-i-init
loop-i-init c = record { beginning = beginning-first _; long = asked-room }

pub loop-i-preserved : goal.loop-i-preserved
loop-i-preserved c =
    let i = c.loop-i.invariant in
    record { beginning = beginning-more _ _ _ i.beginning _ c.requires c.loop-i-test.true c.one.ensures; long = i.long }

pub returns : goal.returns
returns c = (beginning-last _ _ _ c.loop-i.invariant.beginning (omega arith), c.loop-i.invariant.long)
