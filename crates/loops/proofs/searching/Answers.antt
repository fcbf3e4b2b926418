use Rattle.loops.proofs.Stages.{gathered-first, gathered-more, gathered-last}
use Rattle.loops.proofs.searching.Goals as goal

pub loop-r-init : goal.loop-r-init
loop-r-init c = search gathered-first

pub loop-r-preserved : goal.loop-r-preserved
loop-r-preserved c = search gathered-more

pub returns : goal.returns
returns c = search gathered-last
