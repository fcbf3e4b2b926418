-- Request (xiv), of a chart of at most 64 events with tables of 64 sets: what the fit test, executing, opening, counting, finishing, replaying, striking, matching and deriving gave
-- with these limits, and that they give it of the same chart with longer tables. Counting says 256 where it said 64, "no open event"; a matching snapshot is longer by what is no.
-- Assumes nothing.
use Prim.Native.Nat.{ℕ, zero, suc, ◌+◌, ◌-◌, ◌*◌, ◌^◌, ◌≤◌, ◌<◌}
use Rattle.std.specs.Prelude.{◌≡◌, Bool, true, false, cond, eqb, ltb, get_or, replicate}
use Rattle.std.proofs.Math.Path.{refl}
use Rattle.std.proofs.Common.{sym, ◌∙◌, zero-add}
use Rattle.std.proofs.Math.Bool.{not, or-false}
use mathlib.Core.List.{List, [], ◌∷◌, ◌++◌, append_assoc}
use native.Mathlib.Omega.{arith}
use Rattle.std.proofs.Math.Nat.{add-zero, add-suc}
use Rattle.std.proofs.Math.ListN.{length}
use Rattle.std.proofs.lemmas.List.{replicate-append-replicate}
use borrow.Author.Tests.{eqb-true, eqb-false, ne_eqb, le-leb, ltb-true, ltb-false}
use Rattle.paper.specs.Limits.{chart_header, chart_short, chart_count, chart_length, bad_node, parents_loop, group_flags, many_events, bad_relation}
use Rattle.paper.specs.Limits.{max_events, max_marks}
use Rattle.paper.specs.Answers.{answer, refusal}
use Rattle.paper.specs.declared.Answer.{Answer}
use Rattle.general.specs.Cases.{cases, both, not_so}
use Rattle.general.specs.Lists.{each, flat-same}
use Rattle.general.specs.Tables.{length-tabulate}
use Rattle.general.specs.Below.{some, first}
use Rattle.sets.specs.Set.{has, union, inter, minus, lowest, all_below}
use Rattle.sets.specs.Laws.{below, ext, has-union, has-inter, has-minus, has-empty, has-collect, minus-le, lowest-none, lowest-lt}
use Rattle.wide.specs.Words.{lowest-here}
use Rattle.flat_chart.specs.Flat.{FlatChart, Row}
use Rattle.flat_chart.specs.Chart.{Kind, condition, response, milestone, include, exclude, table, row_of}
use Rattle.flat_chart.specs.Tests.{row_spill, spill_at, spill_of, roles_from, fit_tables, fit_chart}
use Rattle.graph.specs.Flat.{Marking}
use Rattle.graph.specs.Fitness.{FitMarking, fit_marking, fit, fit-marking}
use Rattle.graph.specs.Steps.{unmet_of, awaited_of, testing, opening}
use Rattle.graph.specs.Steps.{stepping, stepping_by, executing, is_open, open_among, open_set, counting, finishing}
use Rattle.graph.specs.Overruled.{standing_at}
use Rattle.records.specs.Image.{nodes, relations, misplaced, bad_node_at, bad_relation_at}
use Rattle.nesting.specs.Nesting.{on_loop_at, flagged_group_at, event_count}
use Rattle.flattening.specs.Flattening.{kind_number, flat_set, flat_roles}
use Rattle.chart.specs.Flat.{Reading}
use Rattle.chart.specs.Larger.{events_then, longer, larger, empty_then, refuse_then, out_of_range_then, chart_then, reading_smaller}
use Rattle.replay.specs.Recorded.{Entry, record_of, Reached, reaching}
use Rattle.replay.specs.Replaying.{replaying, without, striking}
use Rattle.derived.specs.Derived.{derived_book}
use Rattle.derived.specs.Overruled.{standing_of}
use Rattle.gathering.specs.Behind.{derived-same}
use Rattle.deriver.specs.Matching.{matching_marks, matching_of}
use Rattle.deriver.specs.Deriving.{deriving_answer, derived_room}
use Rattle.promises.specs.Larger.{marks_then}
use Rattle.promises.specs.LargerSnapshots.{padding}
use Rattle.promises.specs.LargerCharts.{fit_tables_then, fit_chart_then, fit_then, testing_then, opening_then, stepping_then, stepping_by_then, executing_then, counting_then, finishing_then, larger_count, deriving_then, derived_room_then, reaching_then, told_then, replaying_then, striking_then, matching_marks_then, matching_then, padded_matched, Small, longer-at, set_same, LargerCharts}

past-table : (t : List ℕ) (e : ℕ) → length t ≤ e → get_or t e 0 ≡ 0
past-table [] e h = refl
past-table (x ∷ t) zero h = absurd (omega arith)
past-table (x ∷ t) (suc e) h = past-table t e (omega arith)

row_same : (c : FlatChart) (e : ℕ) → row_of (larger c) e ≡ row_of c e
row_same c e = rw (longer-at c.conditions e, longer-at c.responses e, longer-at c.milestones e, longer-at c.includes e, longer-at c.excludes e, longer-at c.roles e)

-- ---- the fit test

union-none : (s : ℕ) → union s 0 ≡ s
union-none s = ext (union s 0) s (λ e. has-union s 0 e ∙ rw (has-empty e) (or-false (has s e)))

module _ (n : ℕ) (a b d i x : List ℕ) where
  spill-longer : (k : ℕ) → spill_of n (longer a) (longer b) (longer d) (longer i) (longer x) k ≡ spill_of n a b d i x k
  unfolding spill_of spill_at
  spill-longer zero = refl
  spill-longer (suc k) = rw (spill-longer k, longer-at a k, longer-at b k, longer-at d k, longer-at i k, longer-at x k)

  module _ (la : length a ≡ events_then) (lb : length b ≡ events_then) (ld : length d ≡ events_then) (li : length i ≡ events_then) (lx : length x ≡ events_then) where
    spill-past : (k : ℕ) → spill_of n a b d i x (events_then + k) ≡ spill_of n a b d i x events_then
    unfolding spill_of spill_at row_spill
    spill-past zero = refl
    spill-past (suc k) =
        let e : ℕ = events_then + k in
        let z : minus (union (union (union (union 0 0) 0) 0) 0) (cond (ltb e n) (all_below n) 0) ≡ 0 = omega (arith, minus-le 0 (cond (ltb e n) (all_below n) 0)) in
        rw (
          add-suc,
          spill-past k,
          past-table a e (omega arith),
          past-table b e (omega arith),
          past-table d e (omega arith),
          past-table i e (omega arith),
          past-table x e (omega arith),
          z,
        ) (union-none (spill_of n a b d i x events_then))

module _ (roles : List ℕ) (n : ℕ) where
  roles-longer : (k : ℕ) → roles_from (longer roles) n k ≡ roles_from roles n k
  unfolding roles_from
  roles-longer zero = refl
  roles-longer (suc k) = rw (roles-longer k, longer-at roles (n + k))

  roles-past : length roles ≡ events_then → (j k : ℕ) → events_then ≤ n + j → roles_from roles n (j + k) ≡ roles_from roles n j
  unfolding roles_from
  roles-past l j zero h = rw add-zero
  roles-past l j (suc k) h = rw (add-suc, roles-past l j k h, past-table roles (n + (j + k)) (omega arith)) (union-none (roles_from roles n j))

module _ (c : FlatChart) (small : Small c) where
  pub chart-fit-same : fit_chart (larger c) ≡ fit_chart_then c
  unfolding fit_chart fit_chart_then fit_tables fit_tables_then
  chart-fit-same =
      let n : c.count ≤ events_then = small.count in
      let z : max_events - c.count ≡ (events_then - c.count) + (max_events - events_then) = omega arith in
      rw (
        le-leb c.count max_events (omega arith),
        le-leb c.count events_then n,
        spill-longer c.count c.conditions c.responses c.milestones c.includes c.excludes max_events,
        spill-past c.count c.conditions c.responses c.milestones c.includes c.excludes (small.tables condition) (small.tables response) (small.tables milestone)
            (small.tables include) (small.tables exclude) (max_events - events_then),
        roles-longer c.roles c.count (max_events - c.count),
        z,
        roles-past c.roles c.count small.roles (events_then - c.count) (max_events - events_then) (omega arith),
      )

  pub fit_same : (m : Marking) → fit (larger c) m ≡ fit_then c m
  unfolding fit fit_then
  fit_same m = rw chart-fit-same

-- ---- the lowest member of a set of at most 64

few-below : (s n : ℕ) → n ≤ events_then → ((f : ℕ) → has s f ≡ true → f < n) → s < 2 ^ 64
few-below s n h l = below 64 s (λ f g. not_so (λ i. let o = l f i in omega arith))

lowest-same : (s : ℕ) → s < 2 ^ 64 → eqb s 0 ≡ false → lowest max_events s ≡ lowest events_then s
lowest-same s h n = sym (lowest-here (max_events - events_then) s [] h (eqb-false s 0 n) ∙ rw zero-add)

module _ (m : Marking) (n : ℕ) (few : n ≤ events_then) (fits : FitMarking n m) where
  unmet-small : (conditions : ℕ) → unmet_of m conditions < 2 ^ 64
  unfolding unmet_of
  unmet-small conditions =
      few-below (minus (inter m.included conditions) m.executed) n few (λ f i.
      let t = both _ _ (sym (has-minus (inter m.included conditions) m.executed f) ∙ i) in
      fits.included f (both _ _ (sym (has-inter m.included conditions f) ∙ t.0)).0)

  awaited-small : (milestones : ℕ) → awaited_of m milestones < 2 ^ 64
  unfolding awaited_of
  awaited-small milestones =
      few-below (inter (inter m.included milestones) m.pending) n few (λ f i.
      let t = both _ _ (sym (has-inter (inter m.included milestones) m.pending f) ∙ i) in
      fits.included f (both _ _ (sym (has-inter m.included milestones f) ∙ t.0)).0)

  testing-same : (e : ℕ) (row : Row) → testing m e row ≡ testing_then m e row
  unfolding testing testing_then
  testing-same e row =
      cases (eqb (unmet_of m row.conditions) 0)
      (λ u. cases (eqb (awaited_of m row.milestones) 0) (λ w. rw (u, w)) (λ w. rw (u, w, lowest-same (awaited_of m row.milestones) (awaited-small row.milestones) w)))
      (λ u. rw (u, lowest-same (unmet_of m row.conditions) (unmet-small row.conditions) u))

  stepping-same : (e : ℕ) (row : Row) (r : ℕ) → stepping_by m e row r ≡ stepping_by_then m e row r
  unfolding stepping_by stepping_by_then stepping stepping_then
  stepping-same e row r = rw (testing-same e row)

-- ---- the calls

module _ (c : FlatChart) (small : Small c) (m : Marking) where
  fits-then : fit_then c m ≡ true → FitMarking c.count m
  unfolding fit_then
  fits-then t = (fit-marking c.count m).0 (both (fit_marking c.count m) (fit_chart_then c) t).0

  pub opening-same : (e : ℕ) → opening (larger c) m e ≡ opening_then c m e
  unfolding opening opening_then
  opening-same e =
      cases (fit_then c m) (λ t. rw (fit_same c small m, t, row_same c e, testing-same m c.count small.count (fits-then t) e (row_of c e))) (λ t. rw (fit_same c small m, t))

  pub executing-same : (e r : ℕ) → executing (larger c) m e r ≡ executing_then c m e r
  unfolding executing executing_then
  executing-same e r =
      cases (fit_then c m) (λ t. rw (fit_same c small m, t, row_same c e, stepping-same m c.count small.count (fits-then t) e (row_of c e) r)) (λ t. rw (fit_same c small m, t))

  pub finishing-same : finishing (larger c) m ≡ finishing_then c m
  unfolding finishing finishing_then
  finishing-same = rw (fit_same c small m)

  open-same : open_set (larger c) m ≡ open_set c m
  unfolding open_among
  open-same = ext (open_set (larger c) m) (open_set c m) (λ e.
      has-collect c.count (is_open (larger c) m) e ∙ rw (set_same c condition e, set_same c milestone e) (sym (has-collect c.count (is_open c m) e)))

  open-small : open_set c m < 2 ^ 64
  unfolding open_among
  open-small = few-below (open_set c m) c.count small.count (λ e i. ltb-true e c.count (both _ _ (sym (has-collect c.count (is_open c m) e) ∙ i)).0)

  pub counting-same : counting (larger c) m ≡ larger_count (counting_then c m)
  unfolding counting counting_then larger_count
  counting-same =
      cases (fit_then c m)
      (λ t. cases (eqb (open_set c m) 0)
      (λ z. rw (fit_same c small m, t, open-same, eqb-true (open_set c m) 0 z, lowest-none events_then, lowest-none max_events))
      (λ z. let h : lowest events_then (open_set c m) < events_then = lowest-lt events_then (open_set c m) (let n = eqb-false (open_set c m) 0 z in omega arith) open-small in
      rw (fit_same c small m, t, open-same, lowest-same (open_set c m) open-small z, ne_eqb (lowest events_then (open_set c m)) events_then (λ e. omega arith))))
      (λ t. rw (fit_same c small m, t))

  -- ---- the matching snapshot

  runs-padded : (a b d f : List Bool) (k : ℕ) → a ++ (b ++ (d ++ (f ++ replicate (k + (max_marks - marks_then)) false))) ≡ (a ++ (b ++ (d ++ (f ++ replicate k false)))) ++ padding
  runs-padded a b d f k = rw (← replicate-append-replicate k (max_marks - marks_then) false) (simp append_assoc)

  pub matching-same : matching_of (larger c) m ≡ padded_matched (matching_then c m)
  unfolding matching_of matching_then matching_marks matching_marks_then
  matching-same =
      let n : c.count ≤ events_then = small.count in
      let z : max_marks - 4 * c.count ≡ (marks_then - 4 * c.count) + (max_marks - marks_then) = omega arith in
      let o : each c.count (is_open (larger c) m) ≡ each c.count (is_open c m) =
      flat-same c.count (λ e. is_open (larger c) m e ∷ []) (λ e. is_open c m e ∷ []) (λ e h. rw (set_same c condition e, set_same c milestone e)) in
      cases (fit_then c m)
      (λ t. rw (
        fit_same c small m,
        t,
        o,
        z,
        runs-padded (each c.count (is_open c m)) (each c.count (has m.executed)) (each c.count (has m.included)) (each c.count (λ e. not (has m.pending e)))
            (marks_then - 4 * c.count),
      ))
      (λ t. rw (fit_same c small m, t))

-- ---- a record of steps

module _ (c : FlatChart) (small : Small c) where
  reaching-same : (l : List Entry) (m : Marking) → reaching (larger c) m l ≡ reaching_then c m l
  unfolding reaching reaching_then
  reaching-same [] m = refl
  reaching-same (x ∷ rest) m = rw (executing-same c small m x.event x.role, reaching-same rest (executing_then c m x.event x.role).marking)

  pub replaying-same : (m : Marking) (numbers : List ℕ) → replaying (larger c) m numbers ≡ replaying_then c m numbers
  unfolding replaying replaying_then told_then
  replaying-same m numbers =
      let r : Reached = reaching_then c m (record_of numbers) in
      rw (fit_same c small m, reaching-same (record_of numbers) m, finishing-same c small r.stop.marking)

  pub striking-same : (m : Marking) (numbers : List ℕ) (p : ℕ) → striking (larger c) m numbers p ≡ striking_then c m numbers p
  unfolding striking striking_then
  striking-same m numbers p = rw (fit_same c small m, reaching-same (without p (record_of numbers)) m)

-- ---- deriving

module _ (c : FlatChart) (small : Small c) where
  book-same : derived_book (larger c) ≡ derived_book c
  unfolding standing_at
  book-same =
      let n : c.count ≤ events_then = small.count in
      derived-same (larger c) c (omega arith) (record { count = refl; relations = λ κ e h. stands κ e })
    where
      stands : (κ : Kind) (e : ℕ) → standing_of (larger c) κ e ≡ standing_of c κ e
      stands condition e = set_same c condition e
      stands response e = set_same c response e
      stands milestone e = set_same c milestone e
      stands include e = set_same c include e
      stands exclude e = rw (set_same c exclude e, set_same c include e)

  pub deriving-same : (room : ℕ) → deriving_answer (larger c) room ≡ deriving_then c room
  unfolding deriving_answer deriving_then
  deriving-same room = rw (chart-fit-same c small, book-same)

  pub derived-room-same : (room : List ℕ) → derived_room (larger c) room ≡ derived_room_then c room
  unfolding derived_room derived_room_then
  derived-room-same room = rw (chart-fit-same c small, book-same)

-- ---- and such a chart is what the reading of then gave, whatever the bytes

empty-small : Small empty_then
unfolding empty_then
empty-small = record { count = omega arith; tables = all; roles = refl }
  where
    all : (κ : Kind) → length (table empty_then κ) ≡ events_then
    all condition = refl
    all response = refl
    all milestone = refl
    all include = refl
    all exclude = refl

record SmallRead (r : Reading) : Type 0 where
  small : Small r.chart

under : (t : Bool) (a : Answer) {rest : Reading} → (t ≡ false → SmallRead rest) → SmallRead (refuse_then t a rest)
under true a h = record { small = empty-small }
under false a h = h refl

module _ (image : List ℕ) where
  chart-small : ltb events_then (event_count image) ≡ false → Small (chart_then image)
  unfolding chart_then
  chart-small f = record { count = ltb-false events_then (event_count image) f; tables = all; roles = length-tabulate events_then (flat_roles image) }
    where
      all : (κ : Kind) → length (table (chart_then image) κ) ≡ events_then
      all condition = length-tabulate events_then (flat_set image (kind_number condition))
      all response = length-tabulate events_then (flat_set image (kind_number response))
      all milestone = length-tabulate events_then (flat_set image (kind_number milestone))
      all include = length-tabulate events_then (flat_set image (kind_number include))
      all exclude = length-tabulate events_then (flat_set image (kind_number exclude))

  each-small : SmallRead (reading_smaller image)
  unfolding reading_smaller
  each-small =
      under (ltb (length image) chart_header) (refusal chart_short) (λ a.
      under (out_of_range_then image) (refusal chart_count) (λ b.
      under (misplaced image) (refusal chart_length) (λ d.
      under (some (nodes image) (bad_node_at image)) (answer bad_node (first (nodes image) (bad_node_at image)) 0) (λ f.
      under (some (nodes image) (on_loop_at image)) (answer parents_loop (first (nodes image) (on_loop_at image)) 0) (λ g.
      under (some (nodes image) (flagged_group_at image)) (answer group_flags (first (nodes image) (flagged_group_at image)) 0) (λ h.
      under (ltb events_then (event_count image)) (answer many_events (event_count image) 0) (λ few.
      under (some (relations image) (bad_relation_at image)) (answer bad_relation (first (relations image) (bad_relation_at image)) 0) (λ i.
      record { small = chart-small few }))))))))

  pub read_small : Small (reading_smaller image).chart
  read_small = each-small.small

pub larger-charts : LargerCharts
larger-charts =
    record {
      read = read_small;
      fits = fit_same;
      execute = executing-same;
      open_test = opening-same;
      count = counting-same;
      finished = finishing-same;
      replay = replaying-same;
      strike = striking-same;
      matching = matching-same;
      derive = deriving-same;
      room = derived-room-same;
    }
