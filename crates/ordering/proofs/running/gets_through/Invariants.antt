use Rattle.rule_order.specs.Freed.{Freed}
use Rattle.ordering.proofs.Through.{Through}
use Rattle.ordering.proofs.running.gets_through.Given as goal

abbrev pub invariant-loop : goal.invariant-loop
invariant-loop l =
    record {
      through : Through l.image l.stage l.counted l.scan l.scratch.targeted l.scratch.waits l.scratch.written l.ranges.low l.ranges.high l.counter;
      freed : Freed l.image l.scratch.waits l.scratch.free;
    }
