use Rattle.flattening.specs.Rows.{length-rows, gather_none, gather-more}
use Rattle.flattening.proofs.Layout.gather.Goals as goal

pub loop-r-init : goal.loop-r-init
loop-r-init c = gather_none (length-rows _ _) c.clear.ensures

pub loop-r-preserved : goal.loop-r-preserved
loop-r-preserved c = gather-more (c.args.self.known.goods _ c.loop-r-test.true) c.loop-r.invariant c.add.ensures
