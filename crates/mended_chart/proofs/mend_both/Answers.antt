-- The bytes counted are the mended chart and the list, each at the front of its room. Assumes nothing.
use Rattle.mended_chart.proofs.Front.{answer-is, chart-front, list-front}
use Rattle.mended_chart.proofs.mend_both.Goals as goal

pub returns-then-answer-ne0-clause-answer_value : goal.returns-then-answer-ne0-clause-answer_value
returns-then-answer-ne0-clause-answer_value c = answer-is c.args.image.now c.args.chart.now c.args.list.now _ c.mend-mended.ensures.0

pub returns-clause-answer_value : goal.returns-clause-answer_value
returns-clause-answer_value c = answer-is c.args.image.now c.args.chart.now c.args.list.now _ c.mend-mended.ensures.0

pub returns-clause-chart_after : goal.returns-clause-chart_after
returns-clause-chart_after c =
    let m = c.mend-mended.ensures in
    λ _. (chart-front c.args.image.now c.args.chart.now c.args.list.now _ m.0 c.if-answer-ne0.false m.1 c.chart_length-bytes.ensures).0

pub returns-clause-list_after : goal.returns-clause-list_after
returns-clause-list_after c =
    let m = c.mend-mended.ensures in
    λ _. (list-front c.args.image.now c.args.chart.now c.args.list.now _ m.0 c.if-answer-ne0.false m.2).0

pub returns-clause-chart_in_bounds : goal.returns-clause-chart_in_bounds
returns-clause-chart_in_bounds c =
    let m = c.mend-mended.ensures in
    (chart-front c.args.image.now c.args.chart.now c.args.list.now _ m.0 c.if-answer-ne0.false m.1 c.chart_length-bytes.ensures).1

pub returns-clause-list_in_bounds : goal.returns-clause-list_in_bounds
returns-clause-list_in_bounds c =
    let m = c.mend-mended.ensures in
    (list-front c.args.image.now c.args.chart.now c.args.list.now _ m.0 c.if-answer-ne0.false m.2).1
