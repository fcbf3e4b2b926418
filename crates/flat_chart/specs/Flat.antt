-- A flat chart and one event's row of it, each set as one number: what the definitions and laws speak of. Assumes nothing.
use Rattle.std.specs.Prelude.{ℕ, List}

pub record FlatChart : Type 0 where
  pub count : ℕ
  pub conditions : List ℕ
  pub responses : List ℕ
  pub milestones : List ℕ
  pub includes : List ℕ
  pub excludes : List ℕ
  pub roles : List ℕ

pub record Row : Type 0 where
  pub conditions : ℕ
  pub responses : ℕ
  pub milestones : ℕ
  pub includes : ℕ
  pub excludes : ℕ
  pub roles : ℕ
