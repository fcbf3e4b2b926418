use Rattle.general.specs.Lists.{flat}
use Rattle.deriver.specs.Matching.{marks-more}
use Rattle.std.proofs.Common.{refl}
use Rattle.deriver.proofs.marks.put_marks.Goals as goal

pub loop-e-init : goal.loop-e-init
unfolding flat
loop-e-init c = refl

pub loop-e-preserved : goal.loop-e-preserved
loop-e-preserved c = marks-more _ _ _ _ _ _ c.member.ensures c.loop-e.invariant
