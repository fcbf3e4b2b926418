-- The paper's chart and a chart of one event: their smaller books, and the paper's table, computed. Assumes nothing.
use Rattle.std.specs.Prelude.{◌-◌, ◌≡◌, refl, true, false, [], ◌∷◌, set, replicate}
use Rattle.paper.specs.Limits.{max_marks, or_word, not_word, no_mark}
use Rattle.sets.specs.Set.{has}
use Rattle.general.specs.Below.{some, tally}
use Rattle.general.specs.Lists.{flat, packed}
use Rattle.graph.specs.Examples.{none, marking}
use Rattle.flat_chart.specs.Flat.{FlatChart}
use Rattle.graph.specs.Flat.{Marking}
use Rattle.book.specs.Book.{Book}
use Rattle.book.specs.declared.Trigger.TheVariants.{None}
use Rattle.book.specs.declared.Sense.TheVariants.{NoCondition}
use Rattle.derived.specs.Derived.{on, opens, closes, inclusion, responding, answering, completion, event_rules, derived_rules}
use Rattle.smaller.specs.Staying.{named, executed_stays, included_stays, answered_stays, stays, new_mark, smaller_marks, mark_table}
use Rattle.smaller.specs.Clauses.{words_of, spoken_from, clauses_for, lessened}
use Rattle.smaller.specs.Smaller.{smaller_clauses, smaller_text, has_text, new_condition, restated, reduced, smaller_rules, smaller_condition, smaller_book}

-- "Event 0 is a condition of 1 and has 1 as response; 1 excludes 0 and is pending."
abbrev chart : FlatChart
chart =
    record {
      count = 2;
      conditions = set none 1 1;
      responses = set none 0 2;
      milestones = none;
      includes = none;
      excludes = set none 1 1;
      roles = none;
    }

abbrev start : Marking
start = marking 0 2 3

-- "cond 1 becomes `3 not 2 or`, the mark table 0 1 2 none 3 none none 4"
abbrev pub paper_smaller : Book
paper_smaller =
    record {
      stages = 2;
      marks = 5;
      rules = on 0 false 4 ∷ (on 0 true 2 ∷ (on 1 false 3 ∷ (on 1 true 4 ∷ (opens 0 ∷ (closes 0 ∷ (opens 1 ∷ (closes 1 ∷ [])))))));
      conditions = record { start = 0; count = 1 } ∷ (record { start = 1; count = 4 } ∷ []);
      words = 3 ∷ (3 ∷ (not_word ∷ (2 ∷ (or_word ∷ []))));
    }

-- one event that nothing holds back: "If no text is left, the condition record goes, the stage's setting rule has no condition and its clearing rule goes."
abbrev alone : FlatChart
alone = record { count = 1; conditions = none; responses = none; milestones = none; includes = none; excludes = none; roles = none }

abbrev pub alone_smaller : Book
alone_smaller =
    record { stages = 1; marks = 1; rules = record { trigger = None; sense = NoCondition; effect = true; target = 0 } ∷ []; conditions = []; words = [] }

pub record Examples : Type 0 where
  pub book : smaller_book chart start ≡ paper_smaller
  pub table : mark_table chart start ≡ 0 ∷ (1 ∷ (2 ∷ (no_mark ∷ (3 ∷ (no_mark ∷ (no_mark ∷ (4 ∷ replicate (max_marks - 8) no_mark)))))))
  pub bare : smaller_book alone (marking 0 0 1) ≡ alone_smaller

pub examples : Examples
unfolding derived_rules event_rules completion inclusion responding answering flat packed has some tally named executed_stays included_stays answered_stays stays new_mark smaller_marks
    mark_table words_of spoken_from clauses_for lessened smaller_clauses smaller_text has_text new_condition restated reduced smaller_rules smaller_condition smaller_book
examples = record { book = refl; table = refl; bare = refl }
