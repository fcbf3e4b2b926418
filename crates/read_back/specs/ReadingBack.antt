-- What reading a book back gives, in the request's order of refusals. Assumes nothing.
use Rattle.std.specs.Prelude.{Bool, cond, ◌&&◌, List, ℕ, eqb}
use Rattle.paper.specs.Limits.{not_derived}
use Rattle.paper.specs.Answers.{granted, refusal}
use Rattle.paper.specs.declared.Answer.{Answer}
use Rattle.general.specs.Comparing.{same_bytes}
use Rattle.flat_chart.specs.Chart.{empty_chart}
use Rattle.flat_chart.specs.Tests.{fit_chart}
use Rattle.flat_chart.specs.Flat.{FlatChart}
use Rattle.book.specs.Image.{book_of}
use Rattle.judge.specs.Checking.{book_answer}
use Rattle.deriver.specs.Deriving.{derived_image}
use Rattle.gathering.specs.Gathering.{gathered}
use Rattle.read_back.specs.Flat.{ReadBack}

-- the chart that the book's rules and texts say
abbrev pub chart_behind : List ℕ → FlatChart
chart_behind s = gathered (book_of s)

-- "the books that the deriver writes for some fit flat chart": the gathered chart is fit, and the deriver writes these bytes for it
unfoldable pub from_chart : List ℕ → Bool
from_chart s = fit_chart (chart_behind s) && same_bytes s (derived_image (chart_behind s))

-- "Refusals: 33, not a derived book, after 20 to 26."
unfoldable pub read_back_answer : List ℕ → Answer
read_back_answer s = cond (eqb (book_answer s).code 0) (cond (from_chart s) granted (refusal not_derived)) (book_answer s)

-- "and give that chart without marking or roles"; a refusal gives the empty chart
unfoldable pub reading_back : List ℕ → ReadBack
reading_back s = record { answer = read_back_answer s; chart = cond (eqb (read_back_answer s).code 0) (chart_behind s) empty_chart }
