use Rattle.flat_chart.specs.Tests.{roles-none, roles_more, roles-end}
use Rattle.std.proofs.Common.{refl, arith}
use Rattle.flat_chart.proofs.LentChart.roles_past.Goals as goal

pub loop-e-init : goal.loop-e-init
loop-e-init c = roles-none _ _ _ refl

pub loop-e-preserved : goal.loop-e-preserved
loop-e-preserved c = roles_more _ _ _ _ (omega arith) c.loop-e.invariant
