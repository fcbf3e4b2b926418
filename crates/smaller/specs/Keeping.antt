-- What the code keeps, each set as one number, and the smaller book's parts by it. Assumes nothing.
use Rattle.std.specs.Prelude.{ℕ, List}
use Rattle.wide.specs.Number.{number}
use Rattle.flat_chart.specs.Flat.{FlatChart, Row}
use Rattle.book.specs.declared.Rule.{Rule}
use Rattle.smaller.specs.declared.Kept.{Kept}
use Rattle.smaller.specs.Runs.{completion_by, completions_by, text_by, texts_by}

pub record Keeping : Type 0 where
  pub n : ℕ
  pub executed : ℕ
  pub included : ℕ
  pub answered : ℕ
  pub table : List ℕ

abbrev pub keeping_of : Kept → Keeping
keeping_of k = record { n = k.n; executed = number k.executed; included = number k.included; answered = number k.answered; table = k.table.now }

module _ (k : Keeping) where
  -- everything on e's completion, and e's text, where r has e's sets
  abbrev pub completion_kept : ℕ → Row → List Rule
  completion_kept e r = completion_by k.table k.n k.executed k.included k.answered e r.includes r.excludes r.responses

  abbrev pub text_kept : ℕ → Row → List ℕ
  text_kept e r = text_by k.table k.n k.included k.answered e r.conditions r.milestones

  -- the same by the chart's tables
  abbrev pub completions_kept : FlatChart → ℕ → List Rule
  completions_kept c = completions_by k.table k.n k.executed k.included k.answered c.includes c.excludes c.responses

  abbrev pub texts_kept : FlatChart → ℕ → List ℕ
  texts_kept c = texts_by k.table k.n k.included k.answered c.conditions c.milestones
