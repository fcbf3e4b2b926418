-- Request (viii): the step hands on the open test's sets, and without them it is the step of before the request. Assumes nothing.
use Rattle.std.specs.Prelude.{ℕ, ◌≡◌, refl, not, cond, eqb, leb}
use Rattle.std.proofs.Common.{ap, inl, inr, ⊎_elim, arith}
use Rattle.paper.specs.Limits.{max_events, no_such_event, not_included, not_permitted, condition_wanting, milestone_wanting, unfit}
use Rattle.paper.specs.Answers.{answer, granted}
use Rattle.paper.specs.declared.Answer.{Answer}
use Rattle.general.specs.Cases.{cases}
use Rattle.sets.specs.Set.{has, lowest}
use Rattle.flat_chart.specs.Chart.{roles_of, row_of}
use Rattle.flat_chart.specs.Roles.{Permits, permits, permits-so}
use Rattle.graph.specs.Fitness.{fit}
use Rattle.graph.specs.Steps.{unmet_of, awaited_of, after_with, testing, opening, handed_on, stepping, stepping-cases, stepping_by, executing}
use Rattle.graph.specs.Execution.{BothSets, Admitted, Executes, is_unfit, is_gone, is_forbidden, is_excluded, is_wanting, is_awaiting, is_done, executes}
use Rattle.graph.specs.Opening.{Blocks}
use Rattle.flat_chart.specs.Flat.{FlatChart, Row}
use Rattle.graph.specs.Flat.{Marking, Step}

-- ---- "The step hands both on with code 12 or 13"

module _ (c : FlatChart) (m : Marking) (e r : ℕ) where
  -- a step by a role that may has the open test's answer and its sets
  pub step-tests : Permits (roles_of c e) r → executing c m e r ≡ handed_on (opening c m e) (executing c m e r).marking
  unfolding executing stepping_by stepping opening
  step-tests p =
      let o = (permits-so (roles_of c e) r).1 p in
      cases (fit c m)
      (λ f. cases (leb c.count e) (λ g. rw (f, g)) (λ g. cases (eqb (testing m e (row_of c e)).answer.code 0) (λ t. rw (f, g, o, t)) (λ t. rw (f, g, o, t))))
      (λ f. rw f)

  held_on : {s : Step} → Executes c m e r s → Blocks s.answer.code → Admitted c m e r × BothSets c m e s.conditions s.milestones
  held_on (is_unfit _) b = ⊎_elim (λ h. absurd (omega arith)) (λ h. absurd (omega arith)) b
  held_on (is_gone _ _ _) b = ⊎_elim (λ h. absurd (omega arith)) (λ h. absurd (omega arith)) b
  held_on (is_forbidden _ _) b = ⊎_elim (λ h. absurd (omega arith)) (λ h. absurd (omega arith)) b
  held_on (is_excluded _ _) b = ⊎_elim (λ h. absurd (omega arith)) (λ h. absurd (omega arith)) b
  held_on (is_wanting a _ _ w) b = (a, w)
  held_on (is_awaiting a _ _ _ w) b = (a, w)
  held_on (is_done _ _ _) b = ⊎_elim (λ h. absurd (omega arith)) (λ h. absurd (omega arith)) b

  pub step-exact : Blocks (executing c m e r).answer.code → BothSets c m e (executing c m e r).conditions (executing c m e r).milestones
  step-exact b = (held_on (executes c m e r) b).1

  pub step-hands : Blocks (executing c m e r).answer.code
      → ((executing c m e r).conditions ≡ (opening c m e).conditions) × ((executing c m e r).milestones ≡ (opening c m e).milestones)
  step-hands b =
      let q = step-tests (held_on (executes c m e r) b).0.permitted in
      (ap (λ (s : Step). s.conditions) q, ap (λ (s : Step). s.milestones) q)

  -- "Other codes carry two empty sets."
  pub step-others-empty : (Blocks (executing c m e r).answer.code → ⊥) → ((executing c m e r).conditions ≡ 0) × ((executing c m e r).milestones ≡ 0)
  step-others-empty = go (executes c m e r)
    where
      go : {s : Step} → Executes c m e r s → (Blocks s.answer.code → ⊥) → (s.conditions ≡ 0) × (s.milestones ≡ 0)
      go (is_unfit _) n = (refl, refl)
      go (is_gone _ _ _) n = (refl, refl)
      go (is_forbidden _ _) n = (refl, refl)
      go (is_excluded _ _) n = (refl, refl)
      go (is_wanting _ _ _ _) n = absurd (n (inl refl))
      go (is_awaiting _ _ _ _ _) n = absurd (n (inr refl))
      go (is_done _ _ _) n = (refl, refl)

-- ---- "code, place and order of codes don't change": the step of before the request, in the words of then

pub record StepThen : Type 0 where
  pub answer : Answer
  pub marking : Marking

abbrev pub refusing_then : ℕ → ℕ → Marking → StepThen
refusing_then code place m = record { answer = answer code place 0; marking = m }

abbrev granting_then : Marking → StepThen
granting_then m = record { answer = granted; marking = m }

unfoldable pub stepping_then : Marking → ℕ → Row → StepThen
stepping_then m e row =
    cond (not (has m.included e)) (refusing_then not_included 0 m)
    (cond (not (eqb (unmet_of m row.conditions) 0)) (refusing_then condition_wanting (lowest max_events (unmet_of m row.conditions)) m)
    (cond (not (eqb (awaited_of m row.milestones) 0)) (refusing_then milestone_wanting (lowest max_events (awaited_of m row.milestones)) m)
    (granting_then (after_with m e row.responses row.includes row.excludes))))

unfoldable pub stepping_by_then : Marking → ℕ → Row → ℕ → StepThen
stepping_by_then m e row r = cond (not (permits row.roles r)) (refusing_then not_permitted 0 m) (stepping_then m e row)

unfoldable pub executing_then : FlatChart → Marking → ℕ → ℕ → StepThen
executing_then c m e r =
    cond (not (fit c m)) (refusing_then unfit 0 m)
    (cond (leb c.count e) (refusing_then no_such_event 0 m)
    (stepping_by_then m e (row_of c e) r))

-- a step, the sets left out
abbrev pub left_out : Step → StepThen
left_out s = record { answer = s.answer; marking = s.marking }

stepping-as-then : (m : Marking) (e : ℕ) (row : Row) → left_out (stepping m e row) ≡ stepping_then m e row
unfolding stepping_then
stepping-as-then m e row =
    rw (stepping-cases m e row)
    (cases (has m.included e)
    (λ i. cases (eqb (unmet_of m row.conditions) 0) (λ u. cases (eqb (awaited_of m row.milestones) 0) (λ w. rw (i, u, w)) (λ w. rw (i, u, w))) (λ u. rw (i, u)))
    (λ i. rw i))

pub step-as-then : (c : FlatChart) (m : Marking) (e r : ℕ) → left_out (executing c m e r) ≡ executing_then c m e r
unfolding executing stepping_by executing_then stepping_by_then
step-as-then c m e r =
    cases (fit c m)
    (λ f. cases (leb c.count e) (λ g. rw (f, g)) (λ g. cases (permits (roles_of c e) r) (λ o. rw (f, g, o) (stepping-as-then m e (row_of c e))) (λ o. rw (f, g, o))))
    (λ f. rw f)
