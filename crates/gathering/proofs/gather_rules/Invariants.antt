use Rattle.wide.specs.Number.{rows_of}
use Rattle.flat_chart.specs.Numbers.{flat_of}
use Rattle.book.specs.Image.{book_of}
use Rattle.gathering.specs.Noting.{RulesTaken}
use Rattle.gathering.proofs.Charts.{ByRules}
use Rattle.gathering.proofs.gather_rules.Given as goal

-- the three tables have what the rules passed say, and the rest is as it was
abbrev pub invariant-loop-k : goal.invariant-loop-k
invariant-loop-k l = record {
  taken : RulesTaken l.book.counts.stages (book_of l.book.image.now) l.k (rows_of l.chart.includes) (rows_of l.chart.excludes) (rows_of l.chart.responses);
  rest : ByRules (flat_of l.fn.chart) (flat_of l.chart);
}
