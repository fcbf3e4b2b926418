-- A purchase of two steps, computed: replayed whole and stopped, and with either step struck out. Assumes nothing.
use Rattle.std.specs.Prelude.{ℕ, ◌≡◌, refl, true, false, List, [], ◌∷◌, set}
use Rattle.std.specs.Int.Count.{count_trailing_zeros}
use Rattle.paper.specs.Limits.{condition_wanting, no_such_position, unfit}
use Rattle.paper.specs.Answers.{answer, granted, place_of}
use Rattle.sets.specs.Set.{has}
use Rattle.flat_chart.specs.Roles.{permits}
use Rattle.flat_chart.specs.Tests.{row_spill, spill_at, spill_of, roles_from, fit_tables, fit_chart}
use Rattle.graph.specs.Fitness.{fit_marking, fit}
use Rattle.graph.specs.Steps.{unmet_of, awaited_of, after_with, testing, stepping, stepping_by, executing, finishing}
use Rattle.graph.specs.Examples.{none, pair, marking}
use Rattle.flat_chart.specs.Flat.{FlatChart}
use Rattle.replay.specs.Recorded.{record_of, reaching}
use Rattle.replay.specs.Replaying.{replaying, without, old_position, not_struck, struck, struck_by, striking}

-- event 0 makes event 1 pending and is a condition of it: ordered, then delivered
abbrev pub purchase : FlatChart
purchase = pair (set none 1 1) (set none 0 2) none

abbrev pub ordered-delivered : List ℕ
ordered-delivered = 0 ∷ 0 ∷ 1 ∷ 0 ∷ []

pub record Examples : Type 0 where
  -- all steps are allowed: the record's length and 0
  pub all : replaying purchase (marking 0 0 3) ordered-delivered ≡ record { answer = granted; code = 0; steps = 2; marking = marking 3 0 3; finished = true; conditions = 0; milestones = 0 }
  -- the first is not: 12, at the start, where nothing is pending, for want of event 0
  pub first : replaying purchase (marking 0 0 3) (1 ∷ 0 ∷ 0 ∷ 0 ∷ []) ≡ record { answer = granted; code = condition_wanting; steps = 0; marking = marking 0 0 3; finished = true; conditions = 1; milestones = 0 }
  -- the purchase stood still: event 2 does not exist, and event 1 is pending; the odd last number is no step
  pub still : replaying purchase (marking 0 0 3) (0 ∷ 0 ∷ 2 ∷ 0 ∷ 1 ∷ []) ≡ record { answer = granted; code = 10; steps = 1; marking = marking 1 2 3; finished = false; conditions = 0; milestones = 0 }
  -- nothing recorded: allowed whole, and no position of it can be struck
  pub nothing : replaying purchase (marking 0 0 3) [] ≡ record { answer = granted; code = 0; steps = 0; marking = marking 0 0 3; finished = true; conditions = 0; milestones = 0 }
  pub no-position : striking purchase (marking 0 0 3) [] 0 ≡ not_struck no_such_position 0 (marking 0 0 3)
  -- without the second step: its marking is that after the first
  pub second-struck : striking purchase (marking 0 0 3) ordered-delivered 1 ≡ struck (marking 1 2 3)
  -- without the first step the second fails, named by its old position 1, for want of event 0, and the start marking comes back
  pub first-struck : striking purchase (marking 0 0 3) ordered-delivered 0 ≡ record { answer = answer condition_wanting 1 0; marking = marking 0 0 3; conditions = 1; milestones = 0 }
  -- 14 before 36
  pub unfit-first : striking purchase (marking 4 0 3) [] 0 ≡ not_struck unfit 0 (marking 4 0 3)

pub examples : Examples
unfolding replaying striking struck_by place_of old_position without reaching record_of executing stepping_by stepping testing finishing permits fit fit_chart fit_marking fit_tables roles_from spill_of spill_at row_spill has unmet_of awaited_of after_with count_trailing_zeros
examples = record { all = refl; first = refl; still = refl; nothing = refl; no-position = refl; second-struck = refl; first-struck = refl; unfit-first = refl }
