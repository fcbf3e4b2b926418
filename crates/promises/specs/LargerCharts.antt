-- Request (xiv), of a chart of at most 64 events with tables of 64 sets: what the fit test, executing, opening, counting, finishing, replaying, striking, matching and deriving gave
-- with these limits, and that they give it of the same chart with longer tables. Counting says 256 where it said 64, "no open event"; a matching snapshot is longer by what is no.
-- Assumes nothing.
use Prim.Native.Nat.{ℕ, zero, suc, ◌+◌, ◌-◌, ◌*◌, ◌≤◌}
use Rattle.std.specs.Prelude.{◌≡◌, Bool, false, cond, ◌&&◌, eqb, leb, get_or, drop, replicate}
use Rattle.std.proofs.Math.Path.{refl}
use Rattle.std.proofs.Math.Bool.{not}
use mathlib.Core.List.{List, [], ◌∷◌, ◌++◌}
use Rattle.std.proofs.Math.ListN.{length}
use Rattle.paper.specs.Limits.{max_events, max_marks, unfit, book_room, no_such_position, no_such_event, not_included, not_permitted, condition_wanting, milestone_wanting}
use Rattle.paper.specs.Answers.{answer, granted, refusal}
use Rattle.paper.specs.declared.Answer.{Answer}
use Rattle.general.specs.Lists.{each}
use Rattle.sets.specs.Set.{has, inter, lowest, size}
use Rattle.flat_chart.specs.Flat.{FlatChart, Row}
use Rattle.flat_chart.specs.Chart.{Kind, condition, response, milestone, include, exclude, table, set_of, row_of}
use Rattle.flat_chart.specs.Roles.{permits}
use Rattle.flat_chart.specs.Tests.{spill_of, roles_from}
use Rattle.graph.specs.Flat.{Marking, OpenTest, Step}
use Rattle.graph.specs.Fitness.{fit_marking, fit}
use Rattle.graph.specs.Steps.{unmet_of, awaited_of, blocking_of, shut, blocked, opened, opening}
use Rattle.graph.specs.Steps.{after_with, refusing, granting, handed_on, executing, is_open, open_set, counting, finishing}
use Rattle.graph.specs.declared.steps.OpenCount.{OpenCount}
use Rattle.graph.specs.declared.steps.Finished.{Finished}
use Rattle.chart.specs.Larger.{events_then, longer, larger, reading_smaller}
use Rattle.replay.specs.Recorded.{Entry, record_of, Reached, reached}
use Rattle.replay.specs.Replaying.{untold, replaying, without, not_struck, struck_by, striking}
use Rattle.replay.specs.Flat.{Replayed, Struck}
use Rattle.deriver.specs.Matching.{matching_of}
use Rattle.deriver.specs.declared.Matched.{Matched}
use Rattle.deriver.specs.Deriving.{derived_image, deriving_answer, derived_room}
use Rattle.promises.specs.Larger.{marks_then}
use Rattle.promises.specs.LargerSnapshots.{padded_snapshot}

-- ---- the fit test, as it was

unfoldable pub fit_tables_then : ℕ → FlatChart → Bool
fit_tables_then n c =
    eqb (spill_of n c.conditions c.responses c.milestones c.includes c.excludes events_then) 0 && eqb (roles_from c.roles n (events_then - n)) 0

unfoldable pub fit_chart_then : FlatChart → Bool
fit_chart_then c = leb 1 c.count && leb c.count events_then && fit_tables_then c.count c

unfoldable pub fit_then : FlatChart → Marking → Bool
fit_then c m = fit_marking c.count m && fit_chart_then c

-- ---- the calls on a chart and a marking, as they were

unfoldable pub testing_then : Marking → ℕ → Row → OpenTest
testing_then m e row =
    cond (not (has m.included e)) (shut not_included)
    (cond (not (eqb (unmet_of m row.conditions) 0))
    (blocked condition_wanting (lowest events_then (unmet_of m row.conditions)) (blocking_of m row.conditions row.milestones))
    (cond (not (eqb (awaited_of m row.milestones) 0))
    (blocked milestone_wanting (lowest events_then (awaited_of m row.milestones)) (blocking_of m row.conditions row.milestones))
    opened))

unfoldable pub opening_then : FlatChart → Marking → ℕ → OpenTest
opening_then c m e =
    cond (not (fit_then c m)) (shut unfit)
    (cond (leb c.count e) (shut no_such_event)
    (testing_then m e (row_of c e)))

unfoldable pub stepping_then : Marking → ℕ → Row → Step
stepping_then m e row =
    let t = testing_then m e row in
    cond (eqb t.answer.code 0) (handed_on t (after_with m e row.responses row.includes row.excludes)) (handed_on t m)

unfoldable pub stepping_by_then : Marking → ℕ → Row → ℕ → Step
stepping_by_then m e row r = cond (not (permits row.roles r)) (refusing not_permitted 0 m) (stepping_then m e row)

unfoldable pub executing_then : FlatChart → Marking → ℕ → ℕ → Step
executing_then c m e r =
    cond (not (fit_then c m)) (refusing unfit 0 m)
    (cond (leb c.count e) (refusing no_such_event 0 m)
    (stepping_by_then m e (row_of c e) r))

unfoldable pub counting_then : FlatChart → Marking → OpenCount
counting_then c m =
    cond (not (fit_then c m)) (record { answer = refusal unfit; count = 0; lowest = events_then })
    (record { answer = granted; count = size (open_set c m); lowest = lowest events_then (open_set c m) })

unfoldable pub finishing_then : FlatChart → Marking → Finished
finishing_then c m =
    cond (not (fit_then c m)) (record { answer = refusal unfit; yes = false })
    (record { answer = granted; yes = eqb (inter m.included m.pending) 0 })

-- "no open event" is 256 where it was 64
unfoldable pub larger_count : OpenCount → OpenCount
larger_count r = record { answer = r.answer; count = r.count; lowest = cond (eqb r.lowest events_then) max_events r.lowest }

unfoldable pub deriving_then : FlatChart → ℕ → Answer
deriving_then c room = cond (fit_chart_then c) (cond (leb (length (derived_image c)) room) granted (answer book_room (length (derived_image c)) 0)) (refusal unfit)

unfoldable pub derived_room_then : FlatChart → List ℕ → List ℕ
derived_room_then c room = cond (fit_chart_then c) (cond (leb (length (derived_image c)) (length room)) (derived_image c ++ drop (length (derived_image c)) room) room) room

unfoldable pub reaching_then : FlatChart → Marking → List Entry → Reached
reaching_then c m [] = reached 0 (granting m)
reaching_then c m (x ∷ rest) =
    let s = executing_then c m x.event x.role in
    let r = reaching_then c s.marking rest in
    cond (eqb s.answer.code 0) (reached (suc r.steps) r.stop) (reached 0 s)

unfoldable pub told_then : FlatChart → Reached → Replayed
told_then c r =
    record {
      answer = granted;
      code = r.stop.answer.code;
      steps = r.steps;
      marking = r.stop.marking;
      finished = (finishing_then c r.stop.marking).yes;
      conditions = r.stop.conditions;
      milestones = r.stop.milestones;
    }

unfoldable pub replaying_then : FlatChart → Marking → List ℕ → Replayed
replaying_then c m numbers = cond (not (fit_then c m)) (untold m) (told_then c (reaching_then c m (record_of numbers)))

unfoldable pub striking_then : FlatChart → Marking → List ℕ → ℕ → Struck
striking_then c m numbers p =
    cond (not (fit_then c m)) (not_struck unfit 0 m)
    (cond (leb (length (record_of numbers)) p) (not_struck no_such_position 0 m)
    (struck_by m p (reaching_then c m (without p (record_of numbers)))))

unfoldable pub matching_marks_then : FlatChart → Marking → List Bool
matching_marks_then c m =
    each c.count (is_open c m)
    ++ (each c.count (has m.executed)
    ++ (each c.count (has m.included)
    ++ (each c.count (λ e. not (has m.pending e)) ++ replicate (marks_then - 4 * c.count) false)))

unfoldable pub matching_then : FlatChart → Marking → Matched
matching_then c m =
    cond (not (fit_then c m)) (record { answer = refusal unfit; snapshot = record { marks = replicate marks_then false } })
    (record { answer = granted; snapshot = record { marks = matching_marks_then c m } })

abbrev pub padded_matched : Matched → Matched
padded_matched r = record { answer = r.answer; snapshot = padded_snapshot r.snapshot }

-- ---- a chart of then

-- at most 64 events, and tables of 64
pub record Small (c : FlatChart) : Type 0 where
  pub count : c.count ≤ events_then
  pub tables : (κ : Kind) → length (table c κ) ≡ events_then
  pub roles : length c.roles ≡ events_then

zero-at : (k e : ℕ) → get_or {A = ℕ} (replicate k 0) e 0 ≡ 0
zero-at zero e = refl
zero-at (suc k) zero = refl
zero-at (suc k) (suc e) = zero-at k e

pub longer-at : (t : List ℕ) (e : ℕ) → get_or (longer t) e 0 ≡ get_or t e 0
longer-at = go (max_events - events_then)
  where
    go : (k : ℕ) (t : List ℕ) (e : ℕ) → get_or (t ++ replicate k 0) e 0 ≡ get_or t e 0
    go k [] e = zero-at k e
    go k (x ∷ t) zero = refl
    go k (x ∷ t) (suc e) = go k t e

-- each event has the sets that it had
pub set_same : (c : FlatChart) (κ : Kind) (e : ℕ) → set_of (larger c) κ e ≡ set_of c κ e
set_same c condition e = longer-at c.conditions e
set_same c response e = longer-at c.responses e
set_same c milestone e = longer-at c.milestones e
set_same c include e = longer-at c.includes e
set_same c exclude e = longer-at c.excludes e

-- ---- together

pub record LargerCharts : Type 0 where
  -- whatever the bytes, the reading of then gave such a chart; `charts` of Larger says that the reading of now gives it with longer tables
  pub read : (image : List ℕ) → Small (reading_smaller image).chart
  pub fits : (c : FlatChart) → Small c → (m : Marking) → fit (larger c) m ≡ fit_then c m
  pub execute : (c : FlatChart) → Small c → (m : Marking) (e r : ℕ) → executing (larger c) m e r ≡ executing_then c m e r
  pub open_test : (c : FlatChart) → Small c → (m : Marking) (e : ℕ) → opening (larger c) m e ≡ opening_then c m e
  pub count : (c : FlatChart) → Small c → (m : Marking) → counting (larger c) m ≡ larger_count (counting_then c m)
  pub finished : (c : FlatChart) → Small c → (m : Marking) → finishing (larger c) m ≡ finishing_then c m
  pub replay : (c : FlatChart) → Small c → (m : Marking) (numbers : List ℕ) → replaying (larger c) m numbers ≡ replaying_then c m numbers
  pub strike : (c : FlatChart) → Small c → (m : Marking) (numbers : List ℕ) (p : ℕ) → striking (larger c) m numbers p ≡ striking_then c m numbers p
  pub matching : (c : FlatChart) → Small c → (m : Marking) → matching_of (larger c) m ≡ padded_matched (matching_then c m)
  pub derive : (c : FlatChart) → Small c → (room : ℕ) → deriving_answer (larger c) room ≡ deriving_then c room
  pub room : (c : FlatChart) → Small c → (room : List ℕ) → derived_room (larger c) room ≡ derived_room_then c room
