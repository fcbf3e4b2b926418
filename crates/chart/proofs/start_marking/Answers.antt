use Rattle.flattening.specs.Flattening.{start_marking}
use Rattle.flattening.specs.Meaning.{flagged-is}
use Rattle.chart.proofs.start_marking.Goals as goal

pub returns : goal.returns
unfolding start_marking
returns c = let g = c.args.layout.known in rw (flagged-is g 0 _ c.flagged.ensures, flagged-is g 1 _ c.flagged-2.ensures, flagged-is g 2 _ c.flagged-3.ensures)
