-- The reading with the limits of before request (xiv): 128 nodes, 4,096 relations, 64 events, and tables of 64 sets. "each one accepted before is accepted with the same
-- meaning": within those limits the reading is the one of then, its tables and its roles longer by what is empty; and there every set stands in its lowest word.
-- Assumes nothing.
use Rattle.std.specs.Prelude.{ℕ, zero, suc, ◌+◌, ◌-◌, ◌*◌, ◌^◌, ◌≤◌, ◌<◌, ◌≡◌, Bool, cond, ◌||◌, List, [], ◌∷◌, ◌++◌, length, get_or, replicate, eqb}
use Rattle.std.proofs.Math.Path.{refl}
use Rattle.std.proofs.Common.{ap, arith, zero-add, suc-add}
use Rattle.std.proofs.Math.Bool.{true, false}
use Rattle.std.proofs.Math.Dec.{ltb}
use borrow.Author.Tests.{le-ltb, ltb-true, ltb-false}
use Rattle.paper.specs.Limits.{max_nodes, max_relations, max_events, chart_header, chart_short, chart_count, chart_length, bad_node, parents_loop, group_flags, many_events, bad_relation}
use Rattle.paper.specs.Answers.{answer, granted, refusal}
use Rattle.paper.specs.declared.Answer.{Answer}
use Rattle.general.specs.Cases.{cases, neither, not_so}
use Rattle.general.specs.Below.{some, first}
use Rattle.general.specs.Tables.{tabulate}
use Rattle.sets.specs.Laws.{below}
use Rattle.wide.specs.Words.{joined, words_at}
use Rattle.wide.specs.Number.{number, row_of}
use Rattle.wide.specs.declared.Set.{Set}
use Rattle.flat_chart.specs.Chart.{Kind, condition, response, milestone, include, exclude, set_of, empty_chart}
use Rattle.flat_chart.specs.Flat.{FlatChart}
use Rattle.graph.specs.Fitness.{empty_marking}
use Rattle.records.specs.Image.{nodes, relations, out_of_range, misplaced, bad_node_at, bad_relation_at}
use Rattle.nesting.specs.Nesting.{on_loop_at, flagged_group_at, event_count}
use Rattle.flattening.specs.Flattening.{kind_number, flat_set, flat_table, flat_roles, role_table, flat_chart, start_marking}
use Rattle.chart.specs.Flat.{Reading}
use Rattle.chart.specs.Reading.{refuse_if, reading_relations, reading_nodes, reading}
use Rattle.chart.specs.ReadingGives.{reading-fit}

abbrev pub nodes_then : ℕ
nodes_then = 128

abbrev pub relations_then : ℕ
relations_then = 4096

abbrev pub events_then : ℕ
events_then = 64

-- ---- the reading as it was

unfoldable pub empty_then : FlatChart
empty_then =
    record {
      count = 0;
      conditions = replicate events_then 0;
      responses = replicate events_then 0;
      milestones = replicate events_then 0;
      includes = replicate events_then 0;
      excludes = replicate events_then 0;
      roles = replicate events_then 0;
    }

abbrev pub refuse_then : Bool → Answer → Reading → Reading
refuse_then test a rest = cond test (record { answer = a; chart = empty_then; marking = empty_marking }) rest

abbrev pub refuse_first_then : ℕ → ℕ → (ℕ → Bool) → Reading → Reading
refuse_first_then code n test rest = refuse_then (some n test) (answer code (first n test) 0) rest

module _ (image : List ℕ) where
  unfoldable pub out_of_range_then : Bool
  out_of_range_then = eqb (nodes image) 0 || ltb nodes_then (nodes image) || ltb relations_then (relations image)

  abbrev pub table_then : Kind → List ℕ
  table_then κ = tabulate events_then (flat_set image (kind_number κ))

  unfoldable pub chart_then : FlatChart
  chart_then =
      record {
        count = event_count image;
        conditions = table_then condition;
        responses = table_then response;
        milestones = table_then milestone;
        includes = table_then include;
        excludes = table_then exclude;
        roles = tabulate events_then (flat_roles image);
      }

  unfoldable pub reading_smaller : Reading
  reading_smaller =
      refuse_then (ltb (length image) chart_header) (refusal chart_short)
      (refuse_then out_of_range_then (refusal chart_count)
      (refuse_then (misplaced image) (refusal chart_length)
      (refuse_first_then bad_node (nodes image) (bad_node_at image)
      (refuse_first_then parents_loop (nodes image) (on_loop_at image)
      (refuse_first_then group_flags (nodes image) (flagged_group_at image)
      (refuse_then (ltb events_then (event_count image)) (answer many_events (event_count image) 0)
      (refuse_first_then bad_relation (relations image) (bad_relation_at image)
      (record { answer = granted; chart = chart_then; marking = start_marking image }))))))))

-- ---- the same with tables as long as they are now

abbrev pub longer : List ℕ → List ℕ
longer t = t ++ replicate (max_events - events_then) 0

abbrev pub larger : FlatChart → FlatChart
larger c =
    record {
      count = c.count;
      conditions = longer c.conditions;
      responses = longer c.responses;
      milestones = longer c.milestones;
      includes = longer c.includes;
      excludes = longer c.excludes;
      roles = longer c.roles;
    }

abbrev pub larger_reading : Reading → Reading
larger_reading r = record { answer = r.answer; chart = larger r.chart; marking = r.marking }

none-there : (k : ℕ) (f : ℕ → ℕ) → ((e : ℕ) → f e ≡ 0) → tabulate k f ≡ replicate k 0
unfolding tabulate
none-there zero f h = refl
none-there (suc k) f h = rw (h zero, none-there k (λ e. f (suc e)) (λ e. h (suc e)))

none-past : (m k : ℕ) (f : ℕ → ℕ) → ((e : ℕ) → m ≤ e → f e ≡ 0) → tabulate (m + k) f ≡ tabulate m f ++ replicate k 0
unfolding tabulate
none-past zero k f h = rw zero-add (none-there k f (λ e. h e (omega arith)))
none-past (suc m) k f h = rw suc-add (ap (λ (l : List ℕ). f zero ∷ l) (none-past m k (λ e. f (suc e)) (λ e l. h (suc e) (omega arith))))

-- ---- within the limits of then

module _ (image : List ℕ) where
  module _ (few : event_count image ≤ events_then) where
    table-longer : (κ : Kind) → flat_table image κ ≡ longer (table_then image κ)
    unfolding flat_table flat_set
    table-longer κ = none-past events_then (max_events - events_then) (flat_set image (kind_number κ)) (λ e h. rw (le-ltb e (event_count image) (omega arith)))

    roles-longer : role_table image ≡ longer (tabulate events_then (flat_roles image))
    unfolding role_table flat_roles
    roles-longer = none-past events_then (max_events - events_then) (flat_roles image) (λ e h. rw (le-ltb e (event_count image) (omega arith)))

    chart-larger : flat_chart image ≡ larger (chart_then image)
    unfolding flat_chart chart_then
    chart-larger = rw (table-longer condition, table-longer response, table-longer milestone, table-longer include, table-longer exclude, roles-longer)

  -- test by test
  record Same (then now : Reading) : Type 0 where
    same : now ≡ larger_reading then

  under : (t : Bool) (a : Answer) {then now : Reading} → Same then now → Same (refuse_then t a then) (refuse_if t a now)
  unfolding empty_chart empty_then
  under true a h = record { same = refl }
  under false a h = h

  module _ (n : nodes image ≤ nodes_then) (k : relations image ≤ relations_then) (few : event_count image ≤ events_then) where
    range_same : out_of_range image ≡ out_of_range_then image
    unfolding out_of_range out_of_range_then
    range_same =
        rw (
          le-ltb max_nodes (nodes image) (omega arith),
          le-ltb max_relations (relations image) (omega arith),
          le-ltb nodes_then (nodes image) n,
          le-ltb relations_then (relations image) k,
        )

    many-same : ltb max_events (event_count image) ≡ ltb events_then (event_count image)
    many-same = rw (le-ltb max_events (event_count image) (omega arith), le-ltb events_then (event_count image) few)

    each : Same (reading_smaller image) (reading image)
    unfolding reading reading_nodes reading_relations reading_smaller
    each =
        rw (range_same, many-same)
        (under (ltb (length image) chart_header) (refusal chart_short)
        (under (out_of_range_then image) (refusal chart_count)
        (under (misplaced image) (refusal chart_length)
        (under (some (nodes image) (bad_node_at image)) (answer bad_node (first (nodes image) (bad_node_at image)) 0)
        (under (some (nodes image) (on_loop_at image)) (answer parents_loop (first (nodes image) (on_loop_at image)) 0)
        (under (some (nodes image) (flagged_group_at image)) (answer group_flags (first (nodes image) (flagged_group_at image)) 0)
        (under (ltb events_then (event_count image)) (answer many_events (event_count image) 0)
        (under (some (relations image) (bad_relation_at image)) (answer bad_relation (first (relations image) (bad_relation_at image)) 0)
        (record { same = rw (chart-larger few) })))))))))

    -- every answer is the one of then, and so are the chart and the marking
    pub reads-as-smaller : reading image ≡ larger_reading (reading_smaller image)
    reads-as-smaller = each.same

  -- ---- and what was accepted is within them

  passed : (t : Bool) (a : Answer) (rest : Reading) → (a.code ≡ 0 → ⊥) → (refuse_then t a rest).answer.code ≡ 0 → (t ≡ false) × (rest.answer.code ≡ 0)
  passed true a rest n e = absurd (n e)
  passed false a rest n e = (refl, e)

  pub accepted-still : (reading_smaller image).answer.code ≡ 0 → reading image ≡ larger_reading (reading_smaller image)
  unfolding reading_smaller out_of_range_then
  accepted-still z =
      let a = passed (ltb (length image) chart_header) (refusal chart_short) _ (λ e. omega arith) z in
      let b = passed (out_of_range_then image) (refusal chart_count) _ (λ e. omega arith) a.1 in
      let c = passed (misplaced image) (refusal chart_length) _ (λ e. omega arith) b.1 in
      let d = passed (some (nodes image) (bad_node_at image)) (answer bad_node (first (nodes image) (bad_node_at image)) 0) _ (λ e. omega arith) c.1 in
      let f = passed (some (nodes image) (on_loop_at image)) (answer parents_loop (first (nodes image) (on_loop_at image)) 0) _ (λ e. omega arith) d.1 in
      let g = passed (some (nodes image) (flagged_group_at image)) (answer group_flags (first (nodes image) (flagged_group_at image)) 0) _ (λ e. omega arith) f.1 in
      let h = passed (ltb events_then (event_count image)) (answer many_events (event_count image) 0) _ (λ e. omega arith) g.1 in
      let t = neither (eqb (nodes image) 0 || ltb nodes_then (nodes image)) (ltb relations_then (relations image)) b.0 in
      let u = neither (eqb (nodes image) 0) (ltb nodes_then (nodes image)) t.0 in
      reads-as-smaller (ltb-false nodes_then (nodes image) u.1) (ltb-false relations_then (relations image) t.1) (ltb-false events_then (event_count image) h.0)

-- ---- of at most 64 events every set stands in its lowest word, and past the count there is none

pub record Low (r : Reading) : Type 0 where
  pub sets : (κ : Kind) (e : ℕ) → e < max_events → set_of r.chart κ e < 2 ^ 64
  pub past : (κ : Kind) (e : ℕ) → r.chart.count ≤ e → e < max_events → set_of r.chart κ e ≡ 0
  pub executed : r.marking.executed < 2 ^ 64
  pub pending : r.marking.pending < 2 ^ 64
  pub included : r.marking.included < 2 ^ 64

module _ (image : List ℕ) (z : (reading image).answer.code ≡ 0) (few : (reading image).chart.count ≤ events_then) where
  pub small_low : Low (reading image)
  small_low =
      let (c, m) = reading-fit image z in
      record {
        sets = λ κ e l.
            cases (ltb e (reading image).chart.count)
            (λ t. below 64 (set_of (reading image).chart κ e) (λ f h. not_so (λ i. let o = c.inside κ e f (ltb-true e _ t) i in omega arith)))
            (λ t. rw (c.past κ e (ltb-false e _ t) l) (omega arith));
        past = c.past;
        executed = below 64 (reading image).marking.executed (λ f h. not_so (λ i. let o = m.executed f i in omega arith));
        pending = below 64 (reading image).marking.pending (λ f h. not_so (λ i. let o = m.pending f i in omega arith));
        included = below 64 (reading image).marking.included (λ f h. not_so (λ i. let o = m.included f i in omega arith));
      }

empty-words : (ws : List ℕ) → joined ws ≡ 0 → (i : ℕ) → get_or ws i 0 ≡ 0
empty-words [] e i = refl
empty-words (w ∷ ws) e zero = omega arith
empty-words (w ∷ ws) e (suc i) = empty-words ws (omega arith) i

upper-words : (w : ℕ) (ws : List ℕ) → joined (w ∷ ws) < 2 ^ 64 → (i : ℕ) → get_or ws i 0 ≡ 0
upper-words w ws h = empty-words ws (omega arith)

-- a set below 2 ^ 64 has nothing in its upper words, and so has a row of a table
pub upper-empty : (s : Set) → number s < 2 ^ 64 → (s.w1 ≡ 0) × (s.w2 ≡ 0) × (s.w3 ≡ 0)
unfolding number
upper-empty s h = let e = upper-words s.w0 (s.w1 ∷ s.w2 ∷ s.w3 ∷ []) h in (e 0, e 1, e 2)

pub row-empty : (t : List ℕ) (e : ℕ) → row_of t e < 2 ^ 64 → (get_or t (e * 4 + 1) 0 ≡ 0) × (get_or t (e * 4 + 2) 0 ≡ 0) × (get_or t (e * 4 + 3) 0 ≡ 0)
unfolding row_of
row-empty t e h = let u = upper-words (get_or t (e * 4 + 0) 0) (words_at 3 t (e * 4) 1) h in (u 0, u 1, u 2)
