use Rattle.std.proofs.Common.{◌≡◌}
use Rattle.wide.specs.Number.{number}
use Rattle.flat_chart.specs.Numbers.{lent_of}
use Rattle.graph.specs.Numbers.{marks_of}
use Rattle.graph.specs.Steps.{free_among}
use Rattle.graph.proofs.Marking.open_among.Given as goal

-- all holds the events passed that nothing holds back
abbrev pub invariant-loop-e : goal.invariant-loop-e
invariant-loop-e l = number l.all ≡ free_among (marks_of l.self) (lent_of l.chart).conditions (lent_of l.chart).milestones l.e
