use Rattle.flat_chart.specs.Numbers.{lent_of}
use Rattle.derived.specs.RuleBytes.{row-words}
use Rattle.derived.specs.Sizes.{text_size}
use Rattle.text_writer.proofs.text_size.Goals as goal

pub returns : goal.returns
unfolding text_size
returns c = row-words (lent_of c.args.chart) c.args.e c.row-row.ensures cc
