-- The listing's text, byte by byte: "One chart, whole". Assumes nothing.
use Rattle.std.specs.Prelude.{ℕ, cond, List, ◌++◌, eqb, length, take}
use Rattle.paper.specs.declared.Answer.{Answer}
use Rattle.flat_chart.specs.Flat.{FlatChart}
use Rattle.chart.specs.Reading.{reading}
use Rattle.book.specs.Book.{Book, rule_of, text_of}
use Rattle.general.specs.Lists.{flat}
use Rattle.derived.specs.Derived.{derived_book}
use Rattle.deriver.specs.Deriving.{deriving_answer}
use Rattle.single_lines.specs.Text.{counts_line, refusal_line}
use Rattle.rule_lines.specs.Text.{rule_line}
use Rattle.condition_lines.specs.Text.{condition_line}
use Rattle.listing.specs.Limits.{listing_input, listing_book}

-- the first line, the rule lines, and the condition lines "after all rules"
unfoldable pub book_text : Book → List ℕ
book_text b =
    counts_line b.stages b.marks (length b.rules) (length b.conditions) (length b.words)
    ++ (flat (length b.rules) (λ i. rule_line i (rule_of b i))
    ++ flat (length b.conditions) (λ c. condition_line c (text_of b c)))

-- the answer's line where it is a refusal, and else the text
abbrev pub unless_refused : Answer → List ℕ → List ℕ
unless_refused a text = cond (eqb a.code 0) text (refusal_line a)

-- "derives into 49,152 bytes"
unfoldable pub chart_text : FlatChart → List ℕ
chart_text c = unless_refused (deriving_answer c listing_book) (book_text (derived_book c))

unfoldable pub image_text : List ℕ → List ℕ
image_text image = unless_refused (reading image).answer (chart_text (reading image).chart)

-- "reads a chart from standard input (the first 25,097 bytes)"
abbrev pub listing_text : List ℕ → List ℕ
listing_text input = image_text (take listing_input input)
