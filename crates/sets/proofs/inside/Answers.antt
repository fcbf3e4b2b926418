use Rattle.sets.specs.Laws.{within-wide}
use Rattle.sets.proofs.inside.Goals as goal

pub returns : goal.returns
returns c = within-wide 64 _ _ c.ranges.s.fits c.if-n-lt64.false
