use Rattle.nesting.specs.Tables.{marks-none, marks-more}
use Rattle.nesting.proofs.groups_of.Goals as goal

pub loop-a-init : goal.loop-a-init
loop-a-init c = marks-none _ _ _ c.args.image.whole

pub loop-a-preserved : goal.loop-a-preserved
loop-a-preserved c = marks-more c.args.image.whole c.loop-a.invariant c.loop-a-test.true c.parent_of.ensures c.mark.ensures
