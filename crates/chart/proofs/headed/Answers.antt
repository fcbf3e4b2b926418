use Rattle.std.proofs.Common.{refl, sym, ◌∙◌}
use Rattle.chart.specs.Headed.{short, counted, laid}
use Rattle.chart.proofs.Returns.{counts-in, header-right, whole_is}
use Rattle.chart.proofs.headed.Goals as goal

pub returns-then-bytes-lt-CHART_HEADER : goal.returns-then-bytes-lt-CHART_HEADER
returns-then-bytes-lt-CHART_HEADER c = short c.if-bytes-lt-CHART_HEADER.true

pub returns-then-out_of_range : goal.returns-then-out_of_range
returns-then-out_of_range c = counted c.if-bytes-lt-CHART_HEADER.false (sym c.out_of_range.ensures ∙ c.if-out_of_range.true)

pub misplaced-requires : goal.misplaced-requires
misplaced-requires c =
    let l = c.if-bytes-lt-CHART_HEADER.false in
    let t = counts-in _ l c.out_of_range.ensures c.if-out_of_range.false _ _ c.node_count-nodes.ensures c.relation_count-relations.ensures in
    (l, c.node_count-nodes.ensures, c.relation_count-relations.ensures, t.0, t.1)

pub returns-then-misplaced : goal.returns-then-misplaced
returns-then-misplaced c = laid c.if-bytes-lt-CHART_HEADER.false (sym c.out_of_range.ensures ∙ c.if-out_of_range.false) (sym c.misplaced.ensures ∙ c.if-misplaced.true)

pub invariant_of-result : goal.invariant_of-result
invariant_of-result c =
    let h = header-right _ c.if-bytes-lt-CHART_HEADER.false c.out_of_range.ensures c.if-out_of_range.false c.misplaced.ensures c.if-misplaced.false in
    record { whole = whole_is c.node_count-nodes.ensures c.relation_count-relations.ensures h }

pub returns : goal.returns
returns c = (refl, header-right _ c.if-bytes-lt-CHART_HEADER.false c.out_of_range.ensures c.if-out_of_range.false c.misplaced.ensures c.if-misplaced.false)
