use Rattle.flat_chart.specs.Tests.{chart-few, chart-many, chart-tested}
use Rattle.std.proofs.Common.{arith, inl, inr}
use Rattle.flat_chart.proofs.LentChart.is_fit.Goals as goal

pub returns-then-n-lt1 : goal.returns-then-n-lt1
returns-then-n-lt1 c = elim c.then-n-lt1.either [ inl few ↦ chart-few _ _ _ _ _ _ _ few | inr many ↦ chart-many _ _ _ _ _ _ _ many.1 ]

pub returns : goal.returns
returns c = chart-tested _ _ _ _ _ _ _ _ _ _ (omega arith) (omega arith) c.spill.ensures c.roles_past.ensures c.is_empty.ensures
