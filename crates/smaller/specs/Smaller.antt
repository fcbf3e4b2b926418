-- Request (xi), "Smaller books": the derived book of a chart with the marks that never matter dropped, by the chart and its start marking. Assumes nothing.
use Rattle.std.specs.Prelude.{ℕ, Bool, not, cond, List, [], ◌∷◌, length, eqb}
use Rattle.general.specs.Below.{tally}
use Rattle.general.specs.Lists.{flat, packed}
use Rattle.flat_chart.specs.Chart.{condition, milestone, set_of}
use Rattle.flat_chart.specs.Flat.{FlatChart}
use Rattle.graph.specs.Flat.{Marking}
use Rattle.book.specs.Book.{Book, Condition}
use Rattle.book.specs.declared.Rule.{Rule}
use Rattle.book.specs.declared.Sense.{Sense}
use Rattle.book.specs.declared.Sense.TheVariants.{NoCondition, AsWritten, Negated}
use Rattle.derived.specs.Derived.{derived_rules}
use Rattle.smaller.specs.Staying.{stays, new_mark, smaller_marks}
use Rattle.smaller.specs.Clauses.{Clause, clauses_for, spoken, lessened}

module _ (c : FlatChart) (m : Marking) where
  -- ---- the texts: the full text's clauses, without those that became yes

  unfoldable pub smaller_clauses : ℕ → List Clause
  smaller_clauses e = packed (lessened (stays c m) (new_mark c m)) (clauses_for c.count e (set_of c condition e) (set_of c milestone e))

  unfoldable pub smaller_text : ℕ → List ℕ
  smaller_text e = spoken (smaller_clauses e)

  -- "If no text is left, the condition record goes"
  unfoldable pub has_text : ℕ → Bool
  has_text e = not (eqb (length (smaller_text e)) 0)

  -- the new number of the condition record e: how many stay below it
  unfoldable pub new_condition : ℕ → ℕ
  new_condition e = tally e has_text

  -- ---- the rules

  -- a rule that stays, with its new numbers
  abbrev again : Rule → Sense → Rule
  again r s = record { trigger = r.trigger; sense = s; effect = r.effect; target = new_mark c m r.target }

  -- "If no text is left .. the stage's setting rule has no condition and its clearing rule goes."
  unfoldable pub restated : Rule → Sense → List Rule
  restated r NoCondition = again r NoCondition ∷ []
  restated r (AsWritten k) = again r (cond (has_text k) (AsWritten (new_condition k)) NoCondition) ∷ []
  restated r (Negated k) = cond (has_text k) (again r (Negated (new_condition k)) ∷ []) []

  -- "Rules that targeted a dropped mark go"
  unfoldable pub reduced : Rule → List Rule
  reduced r = cond (stays c m r.target) (restated r r.sense) []

  -- the full book's rules, each as it stays
  unfoldable pub smaller_rules : List Rule
  smaller_rules = packed reduced (derived_rules c)

  -- ---- the book

  unfoldable pub smaller_condition : ℕ → List Condition
  smaller_condition e = cond (has_text e) (record { start = length (flat e smaller_text); count = length (smaller_text e) } ∷ []) []

  unfoldable pub smaller_book : Book
  smaller_book =
      record {
        stages = c.count;
        marks = smaller_marks c m;
        rules = smaller_rules;
        conditions = flat c.count smaller_condition;
        words = flat c.count smaller_text;
      }
