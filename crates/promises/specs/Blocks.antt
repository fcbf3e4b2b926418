-- Request (viii): everything that blocks. What the open test's two sets say, that step, replay and strike hand them on, and that the step is else as it was. Assumes nothing.
use Rattle.std.specs.Prelude.{ℕ, ◌<◌, ◌≡◌, ◌↔◌, List, eqb, length, get_or}
use Rattle.paper.specs.Limits.{condition_wanting, milestone_wanting}
use Rattle.general.specs.Below.{tally}
use Rattle.flat_chart.specs.Chart.{roles_of, In, Fit}
use Rattle.graph.specs.Fitness.{FitMarking}
use Rattle.flat_chart.specs.Roles.{Permits}
use Rattle.graph.specs.Steps.{opened, opening, handed_on, executing, counting}
use Rattle.graph.specs.Execution.{Enabled, BothSets, Stands}
use Rattle.graph.specs.Opening.{Blocks, sets-exact, wanting-told, awaiting-told, others-empty, opened-enabled}
use Rattle.graph.specs.Opening.{Cleared, clear, clear-cleared, cleared-open, each_needed, counted-by-test}
use Rattle.graph.specs.HandedOn.{step-tests, step-exact, step-hands, step-others-empty, executing_then, left_out, step-as-then}
use Rattle.flat_chart.specs.Flat.{FlatChart}
use Rattle.graph.specs.Flat.{Marking}
use Rattle.replay.specs.Recorded.{Entry, record_of}
use Rattle.replay.specs.Replaying.{replaying, striking, without}
use Rattle.replay.specs.Table.{replay-blocked, replay-others, strike-sets}

pub record EverythingThatBlocks : Type 0 where
  -- "both whole sets: included conditions not yet executed, and included milestones still pending": with 12 and 13 exactly the events that `Wanting` and `Awaiting` name
  pub exact : (c : FlatChart) (m : Marking) (e : ℕ) → Blocks (opening c m e).answer.code → BothSets c m e (opening c m e).conditions (opening c m e).milestones
  -- 12 exactly if the first is not empty, 13 exactly if the second alone is not
  pub wanting : (c : FlatChart) (m : Marking) (e : ℕ) → ((opening c m e).answer.code ≡ condition_wanting) ↔ ((opening c m e).conditions ≡ 0 → ⊥)
  pub awaiting : (c : FlatChart) (m : Marking) (e : ℕ)
      → ((opening c m e).answer.code ≡ milestone_wanting) ↔ (((opening c m e).conditions ≡ 0) × ((opening c m e).milestones ≡ 0 → ⊥))
  -- "Other codes carry two empty sets."
  pub others : (c : FlatChart) (m : Marking) (e : ℕ) → (Blocks (opening c m e).answer.code → ⊥) → ((opening c m e).conditions ≡ 0) × ((opening c m e).milestones ≡ 0)
  -- 0 exactly if the event is open
  pub open_exactly : (c : FlatChart) (m : Marking) (e : ℕ) → ((opening c m e).answer.code ≡ 0) ↔ (Stands c m e × Enabled c m e)
  -- once every condition in the first set has been executed and every milestone in the second is no longer pending, with nothing else changed, the event is open
  pub cleared : (c : FlatChart) (m : Marking) (e : ℕ) → Blocks (opening c m e).answer.code → (n : Marking) → Cleared c m e n → opening c n e ≡ opened
  pub clearing : (c : FlatChart) (m : Marking) (e : ℕ) → Cleared c m e (clear c m e)
  -- and not before: with the same events included, an open event has none of the first left to execute and none of the second pending
  pub needed : (c : FlatChart) (m : Marking) (e : ℕ) → Blocks (opening c m e).answer.code → (n : Marking) → n.included ≡ m.included → (opening c n e).answer.code ≡ 0
      → ((f : ℕ) → In (opening c m e).conditions f → In n.executed f) × ((f : ℕ) → In (opening c m e).milestones f → In n.pending f → ⊥)
  -- "the count of open events calls the wider test and answers as before": the events that the test finds open
  pub count : (c : FlatChart) (m : Marking) → Fit c → FitMarking c.count m → (counting c m).count ≡ tally c.count (λ e. eqb (opening c m e).answer.code 0)
  -- "The step hands both on with code 12 or 13": by a role that may, its answer and its sets are the open test's
  pub step_tests : (c : FlatChart) (m : Marking) (e r : ℕ) → Permits (roles_of c e) r → executing c m e r ≡ handed_on (opening c m e) (executing c m e r).marking
  pub step_hands : (c : FlatChart) (m : Marking) (e r : ℕ) → Blocks (executing c m e r).answer.code
      → ((executing c m e r).conditions ≡ (opening c m e).conditions) × ((executing c m e r).milestones ≡ (opening c m e).milestones)
  pub step_exact : (c : FlatChart) (m : Marking) (e r : ℕ) → Blocks (executing c m e r).answer.code
      → BothSets c m e (executing c m e r).conditions (executing c m e r).milestones
  pub step_others : (c : FlatChart) (m : Marking) (e r : ℕ) → (Blocks (executing c m e r).answer.code → ⊥)
      → ((executing c m e r).conditions ≡ 0) × ((executing c m e r).milestones ≡ 0)
  -- "code, place and order of codes don't change": the sets left out, the step is the one of before the request
  pub step_as_then : (c : FlatChart) (m : Marking) (e r : ℕ) → left_out (executing c m e r) ≡ executing_then c m e r
  -- "The replay carries the sets too": all that holds back the event of the step that stopped it, in the marking there
  pub replay_exact : (c : FlatChart) (m : Marking) (numbers : List ℕ) → Blocks (replaying c m numbers).code → (d : Entry)
      → BothSets c (replaying c m numbers).marking (get_or (record_of numbers) (replaying c m numbers).steps d).event
      (replaying c m numbers).conditions (replaying c m numbers).milestones
  pub replay_others : (c : FlatChart) (m : Marking) (numbers : List ℕ) → (Blocks (replaying c m numbers).code → ⊥)
      → ((replaying c m numbers).conditions ≡ 0) × ((replaying c m numbers).milestones ≡ 0)
  -- and a strike those of the replay of the shortened record
  pub strike : (c : FlatChart) (m : Marking) (numbers shorter : List ℕ) (p : ℕ) → p < length (record_of numbers) → record_of shorter ≡ without p (record_of numbers)
      → ((striking c m numbers p).conditions ≡ (replaying c m shorter).conditions) × ((striking c m numbers p).milestones ≡ (replaying c m shorter).milestones)

pub everything-that-blocks : EverythingThatBlocks
everything-that-blocks =
    record {
      exact = sets-exact;
      wanting = wanting-told;
      awaiting = awaiting-told;
      others = others-empty;
      open_exactly = opened-enabled;
      cleared = cleared-open;
      clearing = clear-cleared;
      needed = each_needed;
      count = counted-by-test;
      step_tests = step-tests;
      step_hands = step-hands;
      step_exact = step-exact;
      step_others = step-others-empty;
      step_as_then = step-as-then;
      replay_exact = replay-blocked;
      replay_others = replay-others;
      strike = strike-sets;
    }
