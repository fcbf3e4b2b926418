use Rattle.std.proofs.Common.{refl}
use Rattle.flattening.specs.Rows.{length-rows, enter-none, enter-more}
use Rattle.flattening.proofs.Layout.enter_all.Goals as goal

pub loop-e-init : goal.loop-e-init
loop-e-init c = enter-none (length-rows _ _) c.requires

pub loop-e-preserved : goal.loop-e-preserved
loop-e-preserved c = enter-more c.loop-e.invariant refl refl refl c.enter.ensures
