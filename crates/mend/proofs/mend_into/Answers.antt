use Rattle.std.proofs.Common.{inl, inr}
use Rattle.mend.specs.Returns.{chart-fits, list-fits}
use Rattle.mend.proofs.Returns.{mend-narrow, mend-done}
use Rattle.mend.proofs.mend_into.Goals as goal

pub returns-then-chart-chart_need : goal.returns-then-chart-chart_need
returns-then-chart-chart_need c = mend-narrow _ _ _ _ _ c.args.repair.ready.whole c.args.repair.stays c.count_entries-entries.ensures.0 _ _ c.requires (elim c.then-chart-chart_need.either [ inl h ↦ inl h | inr h ↦ inr h.1 ])

pub put_chart-requires : goal.put_chart-requires
put_chart-requires c = chart-fits _ _ _ _ _ c.args.repair.ready.whole c.args.repair.stays c.count_entries-entries.ensures.0 _ _ c.requires c.if-chart-chart_need.false c.if-list-list_need.false

pub put_list-requires : goal.put_list-requires
put_list-requires c = list-fits _ _ _ _ _ c.args.repair.ready.whole c.args.repair.stays c.count_entries-entries.ensures.0 _ _ c.requires c.if-chart-chart_need.false c.if-list-list_need.false

pub returns : goal.returns
returns c = mend-done _ _ _ _ _ c.args.repair.ready.whole c.args.repair.stays c.count_entries-entries.ensures.0 _ _ c.requires c.if-chart-chart_need.false c.if-list-list_need.false c.put_chart.ensures c.put_list.ensures
