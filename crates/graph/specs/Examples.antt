-- The settled examples P4, P5 and P6, and two of the open test, computed. Assumes nothing.
use Rattle.std.specs.Prelude.{ℕ, ◌≡◌, refl, List, set, replicate}
use Rattle.std.specs.Int.Count.{count_trailing_zeros}
use Rattle.paper.specs.Limits.{max_events, not_included, condition_wanting}
use Rattle.paper.specs.Answers.{answer}
use Rattle.sets.specs.Set.{has}
use Rattle.flat_chart.specs.Roles.{permits}
use Rattle.flat_chart.specs.Tests.{row_spill, spill_at, spill_of, roles_from, fit_tables, fit_chart}
use Rattle.graph.specs.Fitness.{fit_marking, fit}
use Rattle.graph.specs.Steps.{unmet_of, awaited_of, after_with, granting, shut, testing, opening, stepping, stepping_by, executing}
use Rattle.flat_chart.specs.Flat.{FlatChart}
use Rattle.graph.specs.Flat.{Marking}

abbrev pub none : List ℕ
none = replicate max_events 0

abbrev pub marking : ℕ → ℕ → ℕ → Marking
marking executed pending included = record { executed = executed; pending = pending; included = included }

-- two events, with these conditions, responses and milestones, and nothing included or excluded
abbrev pub pair : List ℕ → List ℕ → List ℕ → FlatChart
pair conditions responses milestones =
    record { count = 2; conditions = conditions; responses = responses; milestones = milestones; includes = none; excludes = none; roles = none }

pub record Examples : Type 0 where
  -- P4: an event that is its own response is pending after it ran
  pub p4 : executing (pair none (set none 0 1) none) (marking 0 0 1) 0 0 ≡ granting (marking 1 1 1)
  -- P5: an excluded, unexecuted condition doesn't block
  pub p5 : executing (pair (set none 1 1) none none) (marking 0 0 2) 1 0 ≡ granting (marking 2 0 2)
  -- P6: nor an excluded pending milestone
  pub p6 : executing (pair none none (set none 1 1)) (marking 0 1 2) 1 0 ≡ granting (marking 2 1 2)
  -- event 0 is a condition and a milestone of event 1, and pending: 12, and both sets name it; where event 1 is not included they are empty
  pub blocks : opening (pair (set none 1 1) none (set none 1 1)) (marking 0 1 3) 1 ≡ record { answer = answer condition_wanting 0 0; conditions = 1; milestones = 1 }
  pub excluded : opening (pair (set none 1 1) none (set none 1 1)) (marking 0 1 1) 1 ≡ shut not_included

pub examples : Examples
unfolding opening executing stepping_by stepping testing permits fit fit_chart fit_marking fit_tables roles_from spill_of spill_at row_spill has unmet_of awaited_of after_with count_trailing_zeros
examples = record { p4 = refl; p5 = refl; p6 = refl; blocks = refl; excluded = refl }
