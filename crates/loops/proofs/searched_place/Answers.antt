use Rattle.loops.proofs.Stages.{placed_first, placed-searched, placed_past, placed-last}
use Rattle.loops.proofs.searched_place.Goals as goal
use Rattle.loops.proofs.searched_place.Goals.{then-member, else-member}

pub loop-stage-init : goal.loop-stage-init
loop-stage-init c = placed_first _ _ _ c.requires.0 c.requires.1

pub loop-stage-preserved : goal.loop-stage-preserved
loop-stage-preserved c =
    elim c.if-member.branch [
      | then-member w ↦ placed-searched _ _ _ _ _ c.loop-stage.invariant c.loop-stage-test.true _ c.member.ensures _ _ _ w.if-member.true w.stage_place.ensures w.lower-least.ensures w.least-is
      | else-member w ↦ placed_past _ _ _ _ _ c.loop-stage.invariant c.loop-stage-test.true _ c.member.ensures _ w.if-member.false w.least-is
    ]

pub returns : goal.returns
returns c = placed-last _ _ _ _ _ c.requires.2 c.loop-stage.invariant c.loop-stage-test.false
