-- A marking, an open test and a step, each set as one number: what the definitions and laws speak of. Assumes nothing.
use Rattle.std.specs.Prelude.{ℕ}
use Rattle.paper.specs.declared.Answer.{Answer}

pub record Marking : Type 0 where
  pub executed : ℕ
  pub pending : ℕ
  pub included : ℕ

pub record Blocking : Type 0 where
  pub conditions : ℕ
  pub milestones : ℕ

pub record OpenTest : Type 0 where
  pub answer : Answer
  pub conditions : ℕ
  pub milestones : ℕ

pub record Step : Type 0 where
  pub answer : Answer
  pub marking : Marking
  pub conditions : ℕ
  pub milestones : ℕ
