-- Request (vii): replaying a recorded purchase. A record made by granted steps is allowed whole, a strike is the replay of the shortened record, a replay's steps are never refused
-- for being unfit, and the list call on the derived book goes with the replay. Assumes nothing.
use Rattle.std.specs.Prelude.{ℕ, ◌≤◌, ◌<◌, ◌≡◌, refl, ◌↔◌, true, List, [], ◌∷◌, eqb, length}
use Rattle.std.proofs.Common.{sym, subst, arith, eqb-true}
use Rattle.std.proofs.lemmas.Bool.{eqb-false}
use Rattle.paper.specs.Limits.{max_list, unfit}
use Rattle.general.specs.Cases.{cases}
use Rattle.flat_chart.specs.Chart.{In, Fit}
use Rattle.graph.specs.Fitness.{FitMarking}
use Rattle.graph.specs.Fitness.{fit-both, fit}
use Rattle.graph.specs.Steps.{executing}
use Rattle.graph.specs.Execution.{Executes, is_unfit, is_gone, is_forbidden, is_excluded, is_wanting, is_awaiting, is_done, executes, refused-kept, finished-when}
use Rattle.flat_chart.specs.Flat.{FlatChart}
use Rattle.graph.specs.Flat.{Marking, Step}
use Rattle.deriver.specs.Deriving.{derived_image}
use Rattle.deriver.specs.Matching.{matching_of}
use Rattle.index_builder.specs.Building.{index_of}
use Rattle.indexed_list.specs.InList.{completing_list}
use Rattle.replay.specs.Recorded.{Entry, record_of, taking, Allowed, reaching, reach-fit}
use Rattle.replay.specs.Replaying.{replaying, striking, without}
use Rattle.replay.specs.Table.{all_with, replay-allowed, strike-replay, strike-marking}
use Rattle.promises.specs.Lists.{StepsInTurn, end, step, stop, events_of, Permitted, lists-in-turn}

-- the steps of a record as pairs
unfoldable pub steps_of : List Entry → List (ℕ × ℕ)
steps_of [] = []
steps_of (x ∷ l) = (x.event, x.role) ∷ steps_of l

-- how far the record is allowed is how far its steps go one after another
pub reach-in-turn : (c : FlatChart) (l : List Entry) (m : Marking) → StepsInTurn c m (steps_of l) (reaching c m l).steps (reaching c m l).stop.marking
unfolding steps_of reaching
reach-in-turn c [] m = end
reach-in-turn c (x ∷ l) m =
    cases (eqb (taking c m x).answer.code 0)
    (λ e. rw e (step (eqb-true _ 0 e) (reach-in-turn c l (taking c m x).marking)))
    (λ e. let n = eqb-false _ 0 e in rw e (subst (λ (y : Marking). StepsInTurn c m ((x.event, x.role) ∷ steps_of l) 0 y) (sym (refused-kept c m x.event x.role n)) (stop n)))

-- of a fit chart and marking, replay tells how far
told-marking : (c : FlatChart) (m : Marking) (numbers : List ℕ) → fit c m ≡ true
    → ((replaying c m numbers).marking ≡ (reaching c m (record_of numbers)).stop.marking) × ((replaying c m numbers).steps ≡ (reaching c m (record_of numbers)).steps)
unfolding replaying
told-marking c m numbers e = rw e (refl, refl)

-- a step of a fit chart and marking is never refused for being unfit
step-not-unfit : (c : FlatChart) (m : Marking) (e r : ℕ) → fit c m ≡ true → (executing c m e r).answer.code ≡ unfit → ⊥
step-not-unfit c m e r t z = go (executes c m e r) z
  where
    go : {s : Step} → Executes c m e r s → s.answer.code ≡ unfit → ⊥
    go (is_unfit n) x = let (f, k) = fit-both c m t in n f k
    go (is_gone f k h) x = absurd (omega arith)
    go (is_forbidden a n) x = absurd (omega arith)
    go (is_excluded a n) x = absurd (omega arith)
    go (is_wanting a i l w) x = absurd (omega arith)
    go (is_awaiting a i n l w) x = absurd (omega arith)
    go (is_done a b d) x = absurd (omega arith)

not-unfit : (c : FlatChart) (l : List Entry) (m : Marking) → fit c m ≡ true → (reaching c m l).stop.answer.code ≡ unfit → ⊥
unfolding reaching
not-unfit c [] m t = λ z. absurd (omega arith)
not-unfit c (x ∷ l) m t =
    cases (eqb (taking c m x).answer.code 0)
    (λ e. rw e (not-unfit c l (taking c m x).marking (rw e at (reach-fit c (x ∷ []) m t))))
    (λ e. rw e (step-not-unfit c m x.event x.role t))

pub record Replaying : Type 0 where
  -- "and whether the purchase was finished at that point": no event is both included and pending there
  pub finished : (c : FlatChart) (m : Marking) (numbers : List ℕ) → fit c m ≡ true
      → ((replaying c m numbers).finished ≡ true) ↔ ((e : ℕ) → In (replaying c m numbers).marking.included e → In (replaying c m numbers).marking.pending e → ⊥)
  -- the code of the step that stops a replay is the step's own, 10, 32, 11, 12 or 13: 14 is said of the call alone
  pub never : (c : FlatChart) (m : Marking) (numbers : List ℕ) → fit c m ≡ true → (replaying c m numbers).code ≡ unfit → ⊥
  -- replay of a record that was made by granted steps is allowed whole and ends in their marking
  pub made : (c : FlatChart) (m n : Marking) (numbers : List ℕ) → Fit c → FitMarking c.count m → Allowed c m (record_of numbers) n → replaying c m numbers ≡ all_with c numbers n
  -- "The strike is granted exactly if all remaining steps are allowed in their order, and then the marking is the one the shortened record gives"
  pub strike : (c : FlatChart) (m : Marking) (numbers shorter : List ℕ) (p : ℕ) → p < length (record_of numbers) → record_of shorter ≡ without p (record_of numbers)
      → (((striking c m numbers p).answer.code ≡ 0) ↔ (((replaying c m shorter).answer.code ≡ 0) × ((replaying c m shorter).code ≡ 0)))
      × ((striking c m numbers p).answer.code ≡ 0 → (striking c m numbers p).marking ≡ (replaying c m shorter).marking)
  -- for a derived book: the list call with the record's events, each by a permitted role, grants as many as the replay allows, and its snapshot matches the marking that the replay reaches
  pub list : (c : FlatChart) (m : Marking) (numbers : List ℕ) → fit c m ≡ true → Permitted c (steps_of (record_of numbers)) → length (events_of (steps_of (record_of numbers))) ≤ max_list
      → ((completing_list (derived_image c) (index_of (derived_image c)) (matching_of c m).snapshot (events_of (steps_of (record_of numbers)))).granted ≡ (replaying c m numbers).steps)
      × ((completing_list (derived_image c) (index_of (derived_image c)) (matching_of c m).snapshot (events_of (steps_of (record_of numbers)))).snapshot ≡ (matching_of c (replaying c m numbers).marking).snapshot)

pub replays-as-promised : Replaying
unfolding replaying
replays-as-promised =
    record {
      finished = λ c m numbers e. let (f, t) = fit-both c (reaching c m (record_of numbers)).stop.marking (reach-fit c (record_of numbers) m e) in rw e (finished-when c (reaching c m (record_of numbers)).stop.marking f t);
      never = λ c m numbers e. rw e (not-unfit c (record_of numbers) m e);
      made = λ c m n numbers f t a. replay-allowed c m numbers f t a;
      strike = λ c m numbers shorter p h s. (strike-replay c m numbers shorter p h s, strike-marking c m numbers shorter p h s);
      list = λ c m numbers e p l.
          let (f, t) = fit-both c m e in
          let (x, y) = told-marking c m numbers e in
          rw (x, y) (lists-in-turn.alike c f m (reaching c m (record_of numbers)).stop.marking t (steps_of (record_of numbers)) p l (reaching c m (record_of numbers)).steps (reach-in-turn c (record_of numbers) m));
    }
