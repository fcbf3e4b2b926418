use Rattle.std.proofs.Common.{arith, refl}
use Rattle.gathering.specs.Noting.{read_none, read_more, read_all}
use Rattle.gathering.proofs.named_in.Goals as goal

pub loop-i-init : goal.loop-i-init
loop-i-init c = read_none c.empty-conditions.ensures c.empty-milestones.ensures

pub loop-i-preserved : goal.loop-i-preserved
loop-i-preserved c = read_more c.loop-i.invariant c.loop-i-test.true c.u16_at-word.ensures c.note-conditions.ensures c.note-milestones.ensures

pub returns-clause-conditions_value : goal.returns-clause-conditions_value
returns-clause-conditions_value c = (read_all c.loop-i.invariant c.loop-i-test.false).0

pub returns-clause-milestones_value : goal.returns-clause-milestones_value
returns-clause-milestones_value c = (read_all c.loop-i.invariant c.loop-i-test.false).1
