use Rattle.std.proofs.Common.{refl}
use Rattle.records.specs.Found.{found-some, found-none}
use Rattle.chart.proofs.Returns.{relations-bad, relations-on}
use Rattle.chart.proofs.judge_relations.Goals as goal

pub returns-in-Some : goal.returns-in-Some
returns-in-Some c = let t = found-some _ _ c.in-Some.ensures in relations-bad c.args.image.whole t.0 refl t.1

pub returns-in-None : goal.returns-in-None
returns-in-None c = relations-on c.args.image.whole refl refl (found-none _ _ c.in-None.ensures)
