use Rattle.flat_chart.specs.Numbers.{lent_of}
use Rattle.graph.specs.Numbers.{marks_of}
use Rattle.replay.proofs.Walks.{Going}
use Rattle.replay.proofs.walk.Given as goal

abbrev pub invariant-loop-at : goal.invariant-loop-at
invariant-loop-at l = Going (lent_of l.chart) l.recorded (marks_of l.fn.marking) l.from l.end (marks_of l.reached) l.at
