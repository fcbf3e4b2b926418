-- `clashes::by_stage` meets its contract: a rule that targets the mark is taken in, another is passed.
use Rattle.clashes.proofs.Rules.{stage-start, stage-more, stage-past}
use Rattle.clashes.proofs.by_stage.Goals as goal
use Rattle.clashes.proofs.by_stage.Goals.{then-target_of-m, else-target_of-m}

pub loop-r-init : goal.loop-r-init
loop-r-init c = search stage-start

pub loop-r-preserved : goal.loop-r-preserved
loop-r-preserved c = elim c.if-target_of-m.branch [ then-target_of-m w ↦ search stage-more | else-target_of-m w ↦ search stage-past ]
