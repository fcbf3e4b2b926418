-- The paper's chart, whole: its derived book, and the snapshots of P1, P2 and P3, computed. Assumes nothing.
use Rattle.std.specs.Prelude.{ℕ, ◌+◌, ◌*◌, ◌≡◌, refl, Bool, true, false, cond, List, [], ◌∷◌, set}
use Rattle.paper.specs.Limits.{and_word, or_word, not_word}
use Rattle.sets.specs.Set.{has}
use Rattle.graph.specs.Examples.{none, marking}
use Rattle.graph.specs.Steps.{open_with, unmet_of, awaited_of, after_with, after}
use Rattle.flat_chart.specs.Flat.{FlatChart}
use Rattle.graph.specs.Flat.{Marking}
use Rattle.book.specs.Book.{Book}
use Rattle.general.specs.Lists.{flat}
use Rattle.derived.specs.Derived.{on, opens, closes, inclusion, responding, answering, completion, text_for, event_rules, derived_rules, derived_text, derived_condition, derived_book}
use Rattle.deriver.specs.Matching.{matching_marks}

-- "Event 0 is a condition of 1 and has 1 as response; 1 excludes 0 and is pending."
abbrev pub paper_chart : FlatChart
paper_chart =
    record {
      count = 2;
      conditions = set none 1 1;
      responses = set none 0 2;
      milestones = none;
      includes = none;
      excludes = set none 1 1;
      roles = none;
    }

abbrev pub paper_start : Marking
paper_start = marking 0 2 3

-- "mark m worth 2 to the m"
unfoldable pub worth : List Bool → ℕ
worth [] = 0
worth (b ∷ l) = cond b 1 0 + 2 * worth l

-- the listing of the paper, as a book
abbrev pub paper_book : Book
paper_book =
    record {
      stages = 2;
      marks = 8;
      rules = on 0 false 7 ∷ (on 0 true 6 ∷ (on 0 true 2 ∷ (on 1 false 4 ∷ (on 1 true 7 ∷ (on 1 true 3 ∷ (opens 0 ∷ (closes 0 ∷ (opens 1 ∷ (closes 1 ∷ [])))))))));
      conditions = record { start = 0; count = 1 } ∷ (record { start = 1; count = 6 } ∷ []);
      words = 4 ∷ (5 ∷ (4 ∷ (not_word ∷ (2 ∷ (or_word ∷ (and_word ∷ []))))));
    }

pub record Examples : Type 0 where
  pub book : derived_book paper_chart ≡ paper_book
  -- P1: the chart's start matches 113
  pub p1 : worth (matching_marks paper_chart paper_start) ≡ 113
  -- P2: after 0: 119
  pub p2 : worth (matching_marks paper_chart (after paper_chart paper_start 0)) ≡ 119
  -- P3: then 1: 238
  pub p3 : worth (matching_marks paper_chart (after paper_chart (after paper_chart paper_start 0) 1)) ≡ 238

pub examples : Examples
unfolding derived_book derived_rules event_rules completion inclusion responding answering derived_text text_for derived_condition flat has matching_marks open_with unmet_of awaited_of after_with worth
examples = record { book = refl; p1 = refl; p2 = refl; p3 = refl }
