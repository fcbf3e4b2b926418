use Rattle.std.proofs.Common.{length-set}
use Rattle.flattening.specs.Rows.{hand-none, roles_more}
use Rattle.flattening.proofs.Layout.put_group_roles.Goals as goal

pub loop-j-init : goal.loop-j-init
loop-j-init c = (c.told-all, hand-none _)

pub loop-j-preserved : goal.loop-j-preserved
loop-j-preserved c = (simp length-set c.loop-j.invariant.0, roles_more c.args.self.image.whole c.loop-j.invariant.1 _ c.args.self.ordered c.loop-j-test.true c.loop-j.invariant.0 c.roles_with-roles.ensures)
