-- What reading a chart image gives, with the refusals in the paper's order. Assumes nothing.
use Rattle.std.specs.Prelude.{ℕ, Bool, cond, List, length, ltb}
use Rattle.paper.specs.Limits.{max_events, chart_header, chart_short, chart_count, chart_length, bad_node, parents_loop, group_flags, many_events, bad_relation}
use Rattle.paper.specs.Answers.{answer, granted, refusal}
use Rattle.paper.specs.declared.Answer.{Answer}
use Rattle.general.specs.Below.{some, first}
use Rattle.flat_chart.specs.Chart.{empty_chart}
use Rattle.graph.specs.Fitness.{empty_marking}
use Rattle.chart.specs.Flat.{Reading}
use Rattle.records.specs.Image.{nodes, relations, out_of_range, misplaced, bad_node_at, bad_relation_at}
use Rattle.nesting.specs.Nesting.{on_loop_at, flagged_group_at, event_count}
use Rattle.flattening.specs.Flattening.{flat_chart, start_marking}

-- "A refused reading gives an empty flat chart with count 0 and an empty marking"
abbrev pub refused : Answer → Reading
refused a = record { answer = a; chart = empty_chart; marking = empty_marking }

-- "Reading a chart gives the flat chart and the start marking, which the events' flags name."
abbrev pub granted_reading : List ℕ → Reading
granted_reading image = record { answer = granted; chart = flat_chart image; marking = start_marking image }

-- refused so where the test says, and else what follows
abbrev pub refuse_if : Bool → Answer → Reading → Reading
refuse_if test a rest = cond test (refused a) rest

-- refused with the lowest place below n that passes the test, and else what follows
abbrev pub refuse_first : ℕ → ℕ → (ℕ → Bool) → Reading → Reading
refuse_first code n test rest = refuse_if (some n test) (answer code (first n test) 0) rest

module _ (image : List ℕ) where
  -- 8, and no more by request (xii): "Code 9 is never given any more"
  unfoldable pub reading_relations : Reading
  reading_relations = refuse_first bad_relation (relations image) (bad_relation_at image) (granted_reading image)

  -- 4 to 7
  unfoldable pub reading_nodes : Reading
  reading_nodes =
      refuse_first bad_node (nodes image) (bad_node_at image)
      (refuse_first parents_loop (nodes image) (on_loop_at image)
      (refuse_first group_flags (nodes image) (flagged_group_at image)
      (refuse_if (ltb max_events (event_count image)) (answer many_events (event_count image) 0)
      reading_relations)))

  -- 1 to 3
  unfoldable pub reading : Reading
  reading =
      refuse_if (ltb (length image) chart_header) (refusal chart_short)
      (refuse_if (out_of_range image) (refusal chart_count)
      (refuse_if (misplaced image) (refusal chart_length)
      reading_nodes))
