-- What reading a book back gives, each set of its chart as one number: what the definitions and laws speak of. Assumes nothing.
use Rattle.paper.specs.declared.Answer.{Answer}
use Rattle.flat_chart.specs.Flat.{FlatChart}

pub record ReadBack : Type 0 where
  pub answer : Answer
  pub chart : FlatChart
