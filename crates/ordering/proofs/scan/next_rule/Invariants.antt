use Rattle.std.proofs.Common.{◌-◌}
use Rattle.rule_order.specs.Freed.{Freed}
use Rattle.ordering.proofs.Stepping.{Looking}
use Rattle.ordering.proofs.scan.next_rule.Given as goal

abbrev pub invariant-loop-here : goal.invariant-loop-here
invariant-loop-here l =
    record {
      looking : Looking l.image l.scan l.fn.scratch.targeted l.fn.scratch.waits l.fn.scratch.written l.fn.ranges.low l.fn.ranges.high l.here l.scratch.targeted l.scratch.waits
          l.scratch.written l.ranges.low l.ranges.high;
      freed : Freed l.image l.scratch.waits l.scratch.free;
    }

abbrev pub decreases-loop-here : goal.decreases-loop-here
decreases-loop-here l = l.rules - l.here
