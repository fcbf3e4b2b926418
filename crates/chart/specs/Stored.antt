-- Charts stored before there were roles read as they did, but those that 9 was given for: without upper bits the reading is the one whose tests 4 and 6 take a node's
-- whole flags and whose flat chart names no role. Its limits are those of now (request xiv; Larger has those of before). Assumes nothing.
use Rattle.std.specs.Prelude.{ℕ, zero, suc, ◌≤◌, ◌<◌, ◌≡◌, refl, Bool, ◌&&◌, ◌||◌, List, length, replicate, eqb}
use Rattle.std.proofs.Math.Path.{ap}
use Rattle.std.proofs.Common.{◌∙◌, arith, eqb-true}
use Rattle.std.proofs.Math.Bool.{not}
use Rattle.std.proofs.Math.Dec.{leb, ltb}
use Rattle.std.proofs.lemmas.Bool.{eqb-false}
use Rattle.paper.specs.Limits.{max_events, no_parent, max_flags, chart_header, chart_short, chart_count, chart_length, bad_node, parents_loop, group_flags, many_events, bad_relation, include_exclude}
use Rattle.paper.specs.Answers.{answer, granted, refusal}
use Rattle.general.specs.Cases.{cases}
use Rattle.general.specs.Below.{some, some_same, first-same}
use Rattle.general.specs.Tables.{tabulate}
use Rattle.flat_chart.specs.Chart.{condition, response, milestone, include, exclude, empty_chart}
use Rattle.flat_chart.specs.Flat.{FlatChart}
use Rattle.chart.specs.Flat.{Reading}
use Rattle.records.specs.Image.{nodes, relations, parent_of, flags_of, state_of, roles_at, out_of_range, misplaced, bad_node_at, bad_relation_at}
use Rattle.nesting.specs.Nesting.{is_group, on_loop_at, flagged_group_at, event_count}
use Rattle.flattening.specs.Flattening.{flat_table, flat_roles, role_table, flat_chart, start_marking}
use Rattle.chart.specs.Reading.{refuse_if, refuse_first, reading}
use Rattle.chart.specs.ReadingGives.{refused-empty, granted-right, chain-open}
use Rattle.chart.specs.Before.{conflict_at, conflict_from, conflict_to, reading_then, reads-as-then}

module _ (image : List ℕ) where
  -- no node has upper bits, "since stored charts have none"
  abbrev pub Plain : Type 0
  Plain = (i : ℕ) → i < nodes image → roles_at image i ≡ 0

  -- a chart that was accepted before has flags of 7 at most
  pub stored-plain : ((i : ℕ) → i < nodes image → flags_of image i ≤ max_flags) → Plain
  stored-plain h i l = let f = h i l in omega arith

  -- ---- the reading as it was

  -- a parent that does not exist, or flags above 7
  unfoldable pub bad_before : ℕ → Bool
  bad_before i = (not (eqb (parent_of image i) no_parent) && leb (nodes image) (parent_of image i)) || ltb max_flags (flags_of image i)

  -- "a group's flags are 0"
  unfoldable pub flagged_before : ℕ → Bool
  flagged_before i = is_group image i && not (eqb (flags_of image i) 0)

  -- the relations as they are, and every event open to everyone
  unfoldable pub chart_before : FlatChart
  chart_before =
      record {
        count = event_count image;
        conditions = flat_table image condition;
        responses = flat_table image response;
        milestones = flat_table image milestone;
        includes = flat_table image include;
        excludes = flat_table image exclude;
        roles = replicate max_events 0;
      }

  unfoldable pub reading_before : Reading
  reading_before =
      refuse_if (ltb (length image) chart_header) (refusal chart_short)
      (refuse_if (out_of_range image) (refusal chart_count)
      (refuse_if (misplaced image) (refusal chart_length)
      (refuse_first bad_node (nodes image) bad_before
      (refuse_first parents_loop (nodes image) (on_loop_at image)
      (refuse_first group_flags (nodes image) flagged_before
      (refuse_if (ltb max_events (event_count image)) (answer many_events (event_count image) 0)
      (refuse_first bad_relation (relations image) (bad_relation_at image)
      (refuse_if (some (event_count image) (conflict_at image)) (answer include_exclude (conflict_from image) (conflict_to image))
      (record { answer = granted; chart = chart_before; marking = start_marking image })))))))))

zeros : (n : ℕ) (f : ℕ → ℕ) → ((e : ℕ) → f e ≡ 0) → tabulate n f ≡ replicate n 0
unfolding tabulate
zeros zero f h = refl
zeros (suc n) f h = rw (h zero, zeros n (λ e. f (suc e)) (λ e. h (suc e)))

-- ---- without upper bits it is the reading of then, and the reading still where 9 was not given

module _ (image : List ℕ) (p : Plain image) where
  -- "The lower byte keeps its old rules"
  pub same-state : (i : ℕ) → i < nodes image → state_of image i ≡ flags_of image i
  same-state i h = let z = p i h in omega arith

  same-bad : (i : ℕ) → i < nodes image → bad_node_at image i ≡ bad_before image i
  unfolding bad_node_at bad_before
  same-bad i h = ap (λ (x : ℕ). (not (eqb (parent_of image i) no_parent) && leb (nodes image) (parent_of image i)) || ltb max_flags x) (same-state i h)

  same-flagged : (i : ℕ) → i < nodes image → flagged_group_at image i ≡ flagged_before image i
  unfolding flagged_group_at flagged_before
  same-flagged i h = ap (λ (x : ℕ). is_group image i && not (eqb x 0)) (same-state i h)

  same-chart : flat_chart image ≡ chart_before image
  unfolding flat_chart chart_before role_table
  same-chart = rw (zeros max_events (flat_roles image) (λ e. chain-open image e (λ g l a. p g l)))

  pub then-as-before : reading_then image ≡ reading_before image
  unfolding reading_then reading_before
  then-as-before =
      rw (
        some_same (nodes image) (bad_node_at image) (bad_before image) same-bad,
        first-same (nodes image) (bad_node_at image) (bad_before image) same-bad,
        some_same (nodes image) (flagged_group_at image) (flagged_before image) same-flagged,
        first-same (nodes image) (flagged_group_at image) (flagged_before image) same-flagged,
        same-chart,
      )

  pub reads-as-before : ((reading_before image).answer.code ≡ include_exclude → ⊥) → reading image ≡ reading_before image
  reads-as-before n = reads-as-then image (rw then-as-before n) ∙ then-as-before

  -- "byte 0 everywhere"
  pub all-open : (reading image).chart.roles ≡ replicate max_events 0
  unfolding empty_chart chart_before
  all-open =
      cases (eqb (reading image).answer.code 0)
      (λ t. ap (λ (r : Reading). r.chart.roles) (granted-right image (eqb-true (reading image).answer.code 0 t)).1 ∙ ap (λ (c : FlatChart). c.roles) same-chart)
      (λ t. ap (λ (r : Reading). r.chart.roles) (refused-empty image (eqb-false (reading image).answer.code 0 t)))
