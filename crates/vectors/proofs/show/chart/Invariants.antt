use Rattle.std.proofs.Common.{◌-◌, ◌≤◌}
use Rattle.paper.specs.Limits.{max_events}
use Rattle.vectors.proofs.show.chart.Given as goal

abbrev pub invariant-loop-e : goal.invariant-loop-e
invariant-loop-e g l = l.e ≤ max_events

abbrev pub decreases-loop-e : goal.decreases-loop-e
decreases-loop-e g l = max_events - l.e
