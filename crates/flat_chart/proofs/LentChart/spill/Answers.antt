use Rattle.flat_chart.specs.Tests.{spill-whole}
use Rattle.flat_chart.proofs.LentChart.spill.Goals as goal

pub returns : goal.returns
returns c = spill-whole _ _ _ _ _ _ _ _ _ _ c.requires c.all_below.ensures c.empty-none.ensures c.spilled-over.ensures c.spilled.ensures
