use Rattle.std.proofs.Common.{arith}
use Rattle.flattening.specs.Rows.{flat-none, flat-put}
use Rattle.flattening.proofs.Layout.flatten.Goals as goal

pub loop-e-init : goal.loop-e-init
loop-e-init c = flat-none c.requires

pub loop-e-preserved : goal.loop-e-preserved
loop-e-preserved c = flat-put _ _ c.loop-e.invariant (let f = c.args.self.known.few in omega arith) (omega arith) c.with_parent.ensures.each c.put_row.ensures
