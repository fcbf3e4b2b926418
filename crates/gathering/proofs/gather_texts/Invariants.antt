use Rattle.wide.specs.Number.{rows_of}
use Rattle.flat_chart.specs.Numbers.{flat_of}
use Rattle.gathering.specs.Noting.{TextsRead}
use Rattle.gathering.proofs.Charts.{ByTexts}
use Rattle.gathering.proofs.gather_texts.Given as goal

-- both tables have what the texts passed say, and the rest is as it was
abbrev pub invariant-loop-e : goal.invariant-loop-e
invariant-loop-e l = record {
  read : TextsRead l.book.image.now l.e (rows_of l.chart.conditions) (rows_of l.chart.milestones);
  rest : ByTexts (flat_of l.fn.chart) (flat_of l.chart);
}
