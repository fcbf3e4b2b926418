use Rattle.std.proofs.Common.{arith}
use Rattle.flattening.specs.Rows.{hand-none, between_none, down-more}
use Rattle.flattening.proofs.Layout.hand_down.Goals as goal

pub loop-j-init : goal.loop-j-init
loop-j-init c = (hand-none _, between_none)

pub loop-j-preserved : goal.loop-j-preserved
loop-j-preserved c = down-more c.args.self.image.whole c.args.self.ordered c.loop-j-test.true _ _ (let w = c.args.self.image.whole.few in omega arith) c.loop-j.invariant.0 c.loop-j.invariant.1 c.with_parent-all.ensures c.put_row.ensures
