use Rattle.flat_chart.specs.Numbers.{lent_of}
use Rattle.derived.specs.RuleBytes.{row-rules}
use Rattle.derived.specs.Sizes.{completion_size}
use Rattle.rule_writer.proofs.completion_size.Goals as goal

pub returns : goal.returns
unfolding completion_size
returns c = row-rules (lent_of c.args.chart) c.args.e c.row-row.ensures cc
