use Rattle.std.proofs.Common.{ap}
use Rattle.flat_chart.specs.Flat.{FlatChart}
use Rattle.flat_chart.specs.Chart.{empty_chart}
use Rattle.flattening.specs.Flattening.{flat_chart}
use Rattle.chart.proofs.put_chart.Goals as goal

pub put_table-requires : goal.put_table-requires
unfolding empty_chart
put_table-requires c = (c.put_members.ensures, ap (λ (r : FlatChart). r.conditions) c.requires)

pub put_table-requires-2 : goal.put_table-requires-2
unfolding empty_chart
put_table-requires-2 c = (c.put_members.ensures, ap (λ (r : FlatChart). r.responses) c.requires)

pub put_table-requires-3 : goal.put_table-requires-3
unfolding empty_chart
put_table-requires-3 c = (c.put_members.ensures, ap (λ (r : FlatChart). r.milestones) c.requires)

pub put_table-requires-4 : goal.put_table-requires-4
unfolding empty_chart
put_table-requires-4 c = (c.put_members.ensures, ap (λ (r : FlatChart). r.includes) c.requires)

pub put_table-requires-5 : goal.put_table-requires-5
unfolding empty_chart
put_table-requires-5 c = (c.put_members.ensures, ap (λ (r : FlatChart). r.excludes) c.requires)

pub put_roles-requires : goal.put_roles-requires
unfolding empty_chart
put_roles-requires c = ap (λ (r : FlatChart). r.roles) c.requires

pub returns : goal.returns
unfolding flat_chart
returns c =
    rw (
      c.args.layout.known.count,
      c.put_table.ensures,
      c.put_table-2.ensures,
      c.put_table-3.ensures,
      c.put_table-4.ensures,
      c.put_table-5.ensures,
      c.put_roles.ensures,
    )
