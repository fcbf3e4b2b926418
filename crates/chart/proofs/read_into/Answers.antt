use Rattle.chart.proofs.Returns.{reading-refused}
use Rattle.chart.proofs.read_into.Goals as goal

pub returns-in-Err : goal.returns-in-Err
returns-in-Err c = reading-refused _ c.requires c.in-Err.refusal c.from-out.ensures c.in-Err.ensures
