use Rattle.std.proofs.Common.{◌≡◌, ◌-◌}
use Rattle.wide.specs.Number.{number}
use Rattle.flat_chart.specs.Numbers.{lent_of}
use Rattle.flat_chart.specs.Tests.{spilled}
use Rattle.flat_chart.proofs.LentChart.spilled.Given as goal

-- over holds what the rows passed add
abbrev pub invariant-loop-e : goal.invariant-loop-e
invariant-loop-e l = number l.over ≡ spilled (lent_of l.self) (number l.allowed) (number l.fn.start) l.from (l.e - l.from)
