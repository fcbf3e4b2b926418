-- The reading as it was until request (xii), in the words of then but with the limits of now (Larger has those of then): it refused an event that both includes and excludes
-- one, with 9. Every other answer is given still, and where 9 was given the chart is accepted. Assumes nothing.
use Rattle.std.specs.Prelude.{ℕ, ◌≤◌, ◌≡◌, refl, Bool, true, false, ◌&&◌, List, length, eqb, ltb}
use Rattle.std.proofs.Common.{ap, ◌∙◌, arith, eqb-true}
use Rattle.std.proofs.lemmas.Bool.{eqb-false}
use Rattle.paper.specs.Limits.{max_events, chart_header, chart_short, chart_count, chart_length, bad_node, parents_loop, group_flags, many_events, bad_relation, include_exclude}
use Rattle.paper.specs.Answers.{answer, refusal}
use Rattle.paper.specs.declared.Answer.{Answer}
use Rattle.general.specs.Cases.{contra, cases}
use Rattle.general.specs.Below.{some, some_of, first}
use Rattle.general.specs.Tables.{zeros-at}
use Rattle.sets.specs.Set.{has}
use Rattle.sets.specs.Laws.{has-empty}
use Rattle.flat_chart.specs.Chart.{include, exclude, empty_chart}
use Rattle.graph.specs.Before.{Apart}
use Rattle.chart.specs.Flat.{Reading}
use Rattle.records.specs.Image.{nodes, relations, out_of_range, misplaced, bad_node_at, bad_relation_at}
use Rattle.nesting.specs.Nesting.{on_loop_at, flagged_group_at, event_count}
use Rattle.flattening.specs.Flattening.{kind_number, related, flat_chart}
use Rattle.chart.specs.Reading.{granted_reading, refuse_if, refuse_first, reading_relations, reading_nodes, reading}
use Rattle.chart.specs.Conditions.{related-so}
use Rattle.chart.specs.ReadingGives.{refused-empty, granted-right, flat-relates}

module _ (image : List ℕ) where
  -- "No pair may get both include and exclude."
  unfoldable pub conflict : ℕ → ℕ → Bool
  conflict e f = related image (kind_number include) e f && related image (kind_number exclude) e f

  -- e has a conflict with some event
  unfoldable pub conflict_at : ℕ → Bool
  conflict_at e = some (event_count image) (conflict e)

  -- the lowest event that is in conflict, and the lowest with which it is
  unfoldable pub conflict_from : ℕ
  conflict_from = first (event_count image) conflict_at

  unfoldable pub conflict_to : ℕ
  conflict_to = first (event_count image) (conflict conflict_from)

  unfoldable pub reading_then : Reading
  reading_then =
      refuse_if (ltb (length image) chart_header) (refusal chart_short)
      (refuse_if (out_of_range image) (refusal chart_count)
      (refuse_if (misplaced image) (refusal chart_length)
      (refuse_first bad_node (nodes image) (bad_node_at image)
      (refuse_first parents_loop (nodes image) (on_loop_at image)
      (refuse_first group_flags (nodes image) (flagged_group_at image)
      (refuse_if (ltb max_events (event_count image)) (answer many_events (event_count image) 0)
      (refuse_first bad_relation (relations image) (bad_relation_at image)
      (refuse_if (some (event_count image) conflict_at) (answer include_exclude conflict_from conflict_to)
      (granted_reading image)))))))))

  -- ---- test by test: now as then, but where 9 was given

  record Alike (then now : Reading) : Type 0 where
    same : (then.answer.code ≡ include_exclude → ⊥) → now ≡ then
    taken : then.answer.code ≡ include_exclude → now ≡ granted_reading image
    clear : (then.answer.code ≡ include_exclude → ⊥) → now.answer.code ≡ 0 → some (event_count image) conflict_at ≡ false

  last : (t : Bool) → some (event_count image) conflict_at ≡ t → Alike (refuse_if t (answer include_exclude conflict_from conflict_to) (granted_reading image)) (granted_reading image)
  last true e = record { same = λ n. absurd (n refl); taken = λ _. refl; clear = λ n. absurd (n refl) }
  last false e = record { same = λ _. refl; taken = λ z. absurd (omega arith); clear = λ _ _. e }

  under : (t : Bool) (a : Answer) {then now : Reading} → (a.code ≡ 0 → ⊥) → (a.code ≡ include_exclude → ⊥) → Alike then now → Alike (refuse_if t a then) (refuse_if t a now)
  under true a z n _ = record { same = λ _. refl; taken = λ e. absurd (n e); clear = λ _ e. absurd (z e) }
  under false a z n h = h

  alike : Alike reading_then (reading image)
  unfolding reading_then reading reading_nodes reading_relations
  alike =
      under (ltb (length image) chart_header) (refusal chart_short) (λ e. omega arith) (λ e. omega arith)
      (under (out_of_range image) (refusal chart_count) (λ e. omega arith) (λ e. omega arith)
      (under (misplaced image) (refusal chart_length) (λ e. omega arith) (λ e. omega arith)
      (under (some (nodes image) (bad_node_at image)) (answer bad_node (first (nodes image) (bad_node_at image)) 0) (λ e. omega arith) (λ e. omega arith)
      (under (some (nodes image) (on_loop_at image)) (answer parents_loop (first (nodes image) (on_loop_at image)) 0) (λ e. omega arith) (λ e. omega arith)
      (under (some (nodes image) (flagged_group_at image)) (answer group_flags (first (nodes image) (flagged_group_at image)) 0) (λ e. omega arith) (λ e. omega arith)
      (under (ltb max_events (event_count image)) (answer many_events (event_count image) 0) (λ e. omega arith) (λ e. omega arith)
      (under (some (relations image) (bad_relation_at image)) (answer bad_relation (first (relations image) (bad_relation_at image)) 0) (λ e. omega arith) (λ e. omega arith)
      (last (some (event_count image) conflict_at) refl))))))))

  -- where 9 was not given, the reading is the one of then; so every chart that was accepted reads to the same flat chart and start marking
  pub reads-as-then : (reading_then.answer.code ≡ include_exclude → ⊥) → reading image ≡ reading_then
  reads-as-then = alike.same

  pub accepted-then : reading_then.answer.code ≡ 0 → reading image ≡ reading_then
  accepted-then z = reads-as-then (λ e. omega arith)

  -- where it was, the chart is accepted
  pub nine-taken : reading_then.answer.code ≡ include_exclude → reading image ≡ granted_reading image
  nine-taken = alike.taken

  -- ---- and where it was not, no pair of the flat chart has both

  flat-apart : event_count image ≤ max_events → some (event_count image) conflict_at ≡ false → Apart (flat_chart image)
  unfolding conflict_at conflict
  flat-apart few n e f h i x =
      let a = (flat-relates image few include e f).0 i in
      let b = (flat-relates image few exclude e f).0 x in
      contra
      (some_of (event_count image) conflict_at e a.one
      (some_of (event_count image) (conflict e) f a.other (rw ((related-so image include e f).1 a.entered, (related-so image exclude e f).1 b.entered))))
      n

  empty-apart : Apart empty_chart
  unfolding empty_chart
  empty-apart e f h i x = contra i (ap (λ (s : ℕ). has s f) (zeros-at max_events e) ∙ has-empty f)

  pub apart-then : (reading_then.answer.code ≡ include_exclude → ⊥) → Apart (reading image).chart
  apart-then n =
      cases (eqb (reading image).answer.code 0)
      (λ t.
      let z = eqb-true (reading image).answer.code 0 t in
      let r = granted-right image z in
      rw (ap (λ (r : Reading). r.chart) r.1) (flat-apart r.0.nodes_right.few (alike.clear n z)))
      (λ t. rw (ap (λ (r : Reading). r.chart) (refused-empty image (eqb-false (reading image).answer.code 0 t))) empty-apart)
