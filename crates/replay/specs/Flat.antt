-- What replay, strike and the walk under both give, each set as one number: what the definitions and laws speak of. Assumes nothing.
use Rattle.std.specs.Prelude.{ℕ, Bool}
use Rattle.paper.specs.declared.Answer.{Answer}
use Rattle.graph.specs.Flat.{Marking, Step}

pub record Replayed : Type 0 where
  pub answer : Answer
  pub code : ℕ
  pub steps : ℕ
  pub marking : Marking
  pub finished : Bool
  pub conditions : ℕ
  pub milestones : ℕ

pub record Struck : Type 0 where
  pub answer : Answer
  pub marking : Marking
  pub conditions : ℕ
  pub milestones : ℕ

pub record Walked : Type 0 where
  pub at : ℕ
  pub stop : Step
