-- A reading, each set of its chart and its marking as one number: what the definitions and laws speak of. Assumes nothing.
use Rattle.paper.specs.declared.Answer.{Answer}
use Rattle.flat_chart.specs.Flat.{FlatChart}
use Rattle.graph.specs.Flat.{Marking}

pub record Reading : Type 0 where
  pub answer : Answer
  pub chart : FlatChart
  pub marking : Marking
