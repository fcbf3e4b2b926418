use Rattle.rule_order.specs.Freed.{Freed}
use Rattle.ordering.proofs.Listing.{Listed}
use Rattle.ordering.proofs.running.running_order.Given as goal

abbrev pub invariant-loop-j : goal.invariant-loop-j
invariant-loop-j l =
    record {
      listed : Listed l.image l.stage l.fn.room l.room l.counted l.scan l.scratch.targeted l.scratch.waits l.scratch.written l.ranges.low l.ranges.high l.j;
      freed : Freed l.image l.scratch.waits l.scratch.free;
    }
