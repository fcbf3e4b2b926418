-- Steps as the code takes them: the open rule, the open test, executing, counting and the finished test, and what of them other laws cite. Assumes nothing.
use Rattle.std.specs.Prelude.{ℕ, ◌+◌, ◌≤◌, ◌≡◌, Bool, not, ◌&&◌, cond, List, get_or, eqb, leb, ltb}
use Rattle.std.proofs.Math.Path.{refl}
use Rattle.std.proofs.Common.{◌∙◌, arith}
use Rattle.std.proofs.Math.Bool.{true, false, and-true, and-false}
use borrow.Author.Tests.{not-true}
use Rattle.paper.specs.Limits.{max_events, no_such_event, not_included, not_permitted, condition_wanting, milestone_wanting, unfit}
use Rattle.paper.specs.Answers.{answer, granted, refusal}
use Rattle.paper.specs.declared.Answer.{Answer}
use Rattle.general.specs.Cases.{cases}
use Rattle.sets.specs.Set.{has, union, inter, minus, only, lowest, size, collect, put_if}
use Rattle.sets.specs.Laws.{collect-step, ext, has-inter, has-collect}
use Rattle.flat_chart.specs.Chart.{set_of, condition, response, milestone, include, exclude, row_of}
use Rattle.flat_chart.specs.Roles.{permits}
use Rattle.graph.specs.Fitness.{fit}
use Rattle.graph.specs.Fitness.{fit-both}
use Rattle.flat_chart.specs.Flat.{FlatChart, Row}
use Rattle.graph.specs.Flat.{Marking, Blocking, OpenTest, Step}
use Rattle.graph.specs.declared.steps.OpenCount.{OpenCount}
use Rattle.graph.specs.declared.steps.Finished.{Finished}

-- ---- the open rule

-- the included of some conditions that are not executed
unfoldable pub unmet_of : Marking → ℕ → ℕ
unmet_of m conditions = minus (inter m.included conditions) m.executed

-- the included of some milestones that are pending
unfoldable pub awaited_of : Marking → ℕ → ℕ
awaited_of m milestones = inter (inter m.included milestones) m.pending

-- request (viii), "both whole sets: included conditions not yet executed, and included milestones still pending"
abbrev pub blocking_of : Marking → ℕ → ℕ → Blocking
blocking_of m conditions milestones = record { conditions = unmet_of m conditions; milestones = awaited_of m milestones }

unfoldable pub open_with : Marking → ℕ → ℕ → ℕ → Bool
open_with m e conditions milestones = has m.included e && eqb (unmet_of m conditions) 0 && eqb (awaited_of m milestones) 0

-- no condition wants and no milestone is awaited
unfoldable pub free_with : Marking → ℕ → ℕ → Bool
free_with m conditions milestones = eqb (unmet_of m conditions) 0 && eqb (awaited_of m milestones) 0

abbrev pub is_open : FlatChart → Marking → ℕ → Bool
is_open c m e = open_with m e (set_of c condition e) (set_of c milestone e)

-- ---- the open test

-- "Other codes carry two empty sets."
abbrev pub shut : ℕ → OpenTest
shut code = record { answer = refusal code; conditions = 0; milestones = 0 }

-- 12 and 13 carry both sets whole
abbrev pub blocked : ℕ → ℕ → Blocking → OpenTest
blocked code place by = record { answer = answer code place 0; conditions = by.conditions; milestones = by.milestones }

abbrev pub opened : OpenTest
opened = record { answer = granted; conditions = 0; milestones = 0 }

-- the test of event e after the fitness test, from the event's own sets
unfoldable pub testing : Marking → ℕ → Row → OpenTest
testing m e row =
    cond (not (has m.included e)) (shut not_included)
    (cond (not (eqb (unmet_of m row.conditions) 0))
    (blocked condition_wanting (lowest max_events (unmet_of m row.conditions)) (blocking_of m row.conditions row.milestones))
    (cond (not (eqb (awaited_of m row.milestones) 0))
    (blocked milestone_wanting (lowest max_events (awaited_of m row.milestones)) (blocking_of m row.conditions row.milestones))
    opened))

unfoldable pub opening : FlatChart → Marking → ℕ → OpenTest
opening c m e =
    cond (not (fit c m)) (shut unfit)
    (cond (leb c.count e) (shut no_such_event)
    (testing m e (row_of c e)))

-- ---- executing

-- "Ex gains e; Re loses e, then gains e's responses; In loses what e excludes, then gains what e includes."
unfoldable pub after_with : Marking → ℕ → ℕ → ℕ → ℕ → Marking
after_with m e responses includes excludes =
    record {
      executed = union m.executed (only e);
      pending = union (minus m.pending (only e)) responses;
      included = union (minus m.included excludes) includes;
    }

abbrev pub after : FlatChart → Marking → ℕ → Marking
after c m e = after_with m e (set_of c response e) (set_of c include e) (set_of c exclude e)

-- a refusal hands back the marking that it was given
abbrev pub refusing : ℕ → ℕ → Marking → Step
refusing code place m = record { answer = answer code place 0; marking = m; conditions = 0; milestones = 0 }

abbrev pub granting : Marking → Step
granting m = record { answer = granted; marking = m; conditions = 0; milestones = 0 }

-- "The step hands both on": answer and sets of an open test beside a marking
abbrev pub handed_on : OpenTest → Marking → Step
handed_on t m = record { answer = t.answer; marking = m; conditions = t.conditions; milestones = t.milestones }

-- a step of event e after the fitness test, from the event's own sets
unfoldable pub stepping : Marking → ℕ → Row → Step
stepping m e row =
    let t = testing m e row in
    cond (eqb t.answer.code 0) (handed_on t (after_with m e row.responses row.includes row.excludes)) (handed_on t m)

-- case by case
pub stepping-cases : (m : Marking) (e : ℕ) (row : Row) → stepping m e row
    ≡ cond (not (has m.included e)) (handed_on (shut not_included) m)
    (cond (not (eqb (unmet_of m row.conditions) 0))
    (handed_on (blocked condition_wanting (lowest max_events (unmet_of m row.conditions)) (blocking_of m row.conditions row.milestones)) m)
    (cond (not (eqb (awaited_of m row.milestones) 0))
    (handed_on (blocked milestone_wanting (lowest max_events (awaited_of m row.milestones)) (blocking_of m row.conditions row.milestones)) m)
    (granting (after_with m e row.responses row.includes row.excludes))))
unfolding stepping testing
stepping-cases m e row =
    cases (has m.included e)
    (λ i. cases (eqb (unmet_of m row.conditions) 0) (λ u. cases (eqb (awaited_of m row.milestones) 0) (λ w. rw (i, u, w)) (λ w. rw (i, u, w))) (λ u. rw (i, u)))
    (λ i. rw i)

-- and by role r
unfoldable pub stepping_by : Marking → ℕ → Row → ℕ → Step
stepping_by m e row r = cond (not (permits row.roles r)) (refusing not_permitted 0 m) (stepping m e row)

unfoldable pub executing : FlatChart → Marking → ℕ → ℕ → Step
executing c m e r =
    cond (not (fit c m)) (refusing unfit 0 m)
    (cond (leb c.count e) (refusing no_such_event 0 m)
    (stepping_by m e (row_of c e) r))

-- ---- counting

unfoldable pub open_among : Marking → List ℕ → List ℕ → ℕ → ℕ
open_among m conditions milestones n = collect n (λ e. open_with m e (get_or conditions e 0) (get_or milestones e 0))

-- those of the first n that nothing holds back
unfoldable pub free_among : Marking → List ℕ → List ℕ → ℕ → ℕ
free_among m conditions milestones n = collect n (λ e. free_with m (get_or conditions e 0) (get_or milestones e 0))

module _ (m : Marking) (conditions milestones : List ℕ) where
  pub free_more : (e : ℕ) {s t x y : ℕ} (o : Bool) → s ≡ free_among m conditions milestones e → x ≡ get_or conditions e 0 → y ≡ get_or milestones e 0 → o ≡ free_with m x y
      → t ≡ put_if s e o → t ≡ free_among m conditions milestones (e + 1)
  unfolding free_among
  free_more e o p i j q h = h ∙ rw (p, collect-step, ← i, ← j, ← q)

  -- what is open is what is free and included
  free_open : (n : ℕ) → inter (free_among m conditions milestones n) m.included ≡ open_among m conditions milestones n
  unfolding free_among open_among free_with open_with
  free_open n =
      ext (inter (free_among m conditions milestones n) m.included) (open_among m conditions milestones n) (λ e. simp (has-inter, has-collect) (turned (ltb e n) (has m.included e) _ _))
    where
      turned : (l i a b : Bool) → ((l && (a && b)) && i) ≡ (l && ((i && a) && b))
      turned false i a b = refl
      turned true true a b = and-true (a && b)
      turned true false a b = and-false (a && b)

  pub free_none : (s : ℕ) → s ≡ 0 → s ≡ free_among m conditions milestones 0
  unfolding free_among collect
  free_none s p = p

  pub among_end : (e n s t : ℕ) → e ≤ n → n ≤ e → s ≡ free_among m conditions milestones e → t ≡ inter s m.included → t ≡ open_among m conditions milestones n
  among_end e n s t h l p q = let z : e ≡ n = omega arith in q ∙ rw (p, z) (free_open n)

abbrev pub open_set : FlatChart → Marking → ℕ
open_set c m = open_among m c.conditions c.milestones c.count

unfoldable pub counting : FlatChart → Marking → OpenCount
counting c m =
    cond (not (fit c m)) (record { answer = refusal unfit; count = 0; lowest = max_events })
    (record { answer = granted; count = size (open_set c m); lowest = lowest max_events (open_set c m) })

-- ---- the finished test

unfoldable pub finishing : FlatChart → Marking → Finished
finishing c m =
    cond (not (fit c m)) (record { answer = refusal unfit; yes = false })
    (record { answer = granted; yes = eqb (inter m.included m.pending) 0 })

-- ---- what a fit chart and marking give, and the finished test's cases

pub fit_few : (c : FlatChart) (m : Marking) → fit c m ≡ true → c.count ≤ max_events
fit_few c m f = (fit-both c m f).0.few

pub finish-unfit : (c : FlatChart) (m : Marking) (r : Bool) (a : Answer) → r ≡ fit c m → not r ≡ true → a ≡ refusal unfit
    → record { answer = a; yes = false } ≡ finishing c m
unfolding finishing
finish-unfit c m r a p q z = rw (← p, not-true r q, z)

pub finish_told : (c : FlatChart) (m : Marking) → fit c m ≡ true → (finishing c m).yes ≡ eqb (inter m.included m.pending) 0
unfolding finishing
finish_told c m f = rw f
