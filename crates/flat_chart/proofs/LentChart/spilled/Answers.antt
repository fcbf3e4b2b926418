use Rattle.flat_chart.specs.Tests.{rows_none, rows_more}
use Rattle.std.proofs.Common.{refl, arith}
use Rattle.flat_chart.proofs.LentChart.spilled.Goals as goal

pub loop-e-init : goal.loop-e-init
loop-e-init c = rows_none _ _ _ _ _ _ _ _ _ refl

pub loop-e-preserved : goal.loop-e-preserved
loop-e-preserved c = rows_more _ _ _ _ _ _ _ _ _ (omega arith) c.loop-e.invariant c.held.ensures c.less.ensures c.join-over.ensures
