use Rattle.std.proofs.Common.{◌≡◌, ◌-◌}
use Rattle.flat_chart.specs.Numbers.{lent_of}
use Rattle.flat_chart.specs.Tests.{roles_from}
use Rattle.flat_chart.proofs.LentChart.roles_past.Given as goal

-- all holds the roles of the events passed
abbrev pub invariant-loop-e : goal.invariant-loop-e
invariant-loop-e l = l.all ≡ roles_from (lent_of l.self).roles l.n (l.e - l.n)
