-- The flat chart behind a book: what its rules and texts would say of each event, if a chart's deriver had written them. Assumes nothing.
use Rattle.std.specs.Prelude.{ℕ, Bool, true, false, not, cond, ◌&&◌, List, eqb, ltb, length, get_or, replicate}
use Rattle.paper.specs.Limits.{max_events}
use Rattle.general.specs.Below.{some}
use Rattle.general.specs.Tables.{tabulate}
use Rattle.sets.specs.Set.{collect}
use Rattle.flat_chart.specs.Flat.{FlatChart}
use Rattle.book.specs.Book.{Book, no_rule, text_of}
use Rattle.book.specs.declared.Rule.{Rule}
use Rattle.book.specs.declared.Trigger.{Trigger}
use Rattle.book.specs.declared.Trigger.TheVariants.{None, Completed, BecomeYes, BecomeNo}
use Rattle.derived.specs.Derived.{executed_mark, included_mark, answered_mark}

-- ---- one rule

-- whether a trigger is the completion of e
unfoldable pub completes : ℕ → Trigger → Bool
completes e None = false
completes e (Completed s) = eqb e s
completes e (BecomeYes m) = false
completes e (BecomeNo m) = false

-- whether a rule sets (b) or clears the mark m on completion of e; its sense is not looked at: the comparison with the derived book sees it
unfoldable pub adds : ℕ → Bool → ℕ → Rule → Bool
adds e b m r = completes e r.trigger && (cond b r.effect (not r.effect) && eqb m r.target)

-- ---- the events below n for which something in a list passes their test

unfoldable pub passing : {A : Type 0} → A → ℕ → (ℕ → A → Bool) → List A → ℕ
passing d n t l = collect n (λ f. some (length l) (λ i. t f (get_or l i d)))

-- of n events, those whose mark a rule sets or clears on completion of e
unfoldable pub gathered_by : (ℕ → ℕ → ℕ) → Bool → ℕ → List Rule → ℕ → ℕ
gathered_by mark b n rules e = passing no_rule n (λ f. adds e b (mark n f)) rules

-- of n events, those whose mark a text names
unfoldable pub named_in : (ℕ → ℕ → ℕ) → ℕ → List ℕ → ℕ
named_in mark n text = passing 0 n (λ f. eqb (mark n f)) text

-- ---- "set included f if e includes f, or clear it if e excludes f; .. clear answered f if f is a response of e"

abbrev pub gathered_includes : ℕ → List Rule → ℕ → ℕ
gathered_includes = gathered_by included_mark true

abbrev pub gathered_excludes : ℕ → List Rule → ℕ → ℕ
gathered_excludes = gathered_by included_mark false

abbrev pub gathered_responses : ℕ → List Rule → ℕ → ℕ
gathered_responses = gathered_by answered_mark false

-- ---- "for each condition f rising: included f, not, executed f, or, and; then the same for each milestone with answered f"

abbrev pub gathered_conditions : ℕ → List ℕ → ℕ
gathered_conditions = named_in executed_mark

abbrev pub gathered_milestones : ℕ → List ℕ → ℕ
gathered_milestones = named_in answered_mark

-- ---- the chart: a set for each event, and none past the count

unfoldable pub rows_below : ℕ → (ℕ → ℕ) → List ℕ
rows_below n row = tabulate max_events (λ e. cond (ltb e n) (row e) 0)

unfoldable pub gathered : Book → FlatChart
gathered b =
    record {
      count = b.stages;
      conditions = rows_below b.stages (λ e. gathered_conditions b.stages (text_of b e));
      responses = rows_below b.stages (gathered_responses b.stages b.rules);
      milestones = rows_below b.stages (λ e. gathered_milestones b.stages (text_of b e));
      includes = rows_below b.stages (gathered_includes b.stages b.rules);
      excludes = rows_below b.stages (gathered_excludes b.stages b.rules);
      roles = replicate max_events 0;
    }
