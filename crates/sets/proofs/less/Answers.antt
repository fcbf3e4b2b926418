use Rattle.sets.specs.Laws.{and-not}
use Rattle.sets.proofs.less.Goals as goal

pub returns : goal.returns
returns c = and-not 64 _ _ c.ranges.a.fits c.ranges.b.fits
