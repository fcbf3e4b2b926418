-- `index_fit::order_same`: the rules so far.
use Rattle.rule_order.specs.Freed.{Freed}
use Rattle.index_fit.proofs.Comparing.{Following}
use Rattle.index_fit.proofs.order_same.Given as goal

abbrev pub invariant-loop-j : goal.invariant-loop-j
invariant-loop-j l =
    record {
      same : Following l.image l.stage l.index l.at l.counted l.scan l.scratch.targeted l.scratch.waits l.scratch.written l.ranges.low l.ranges.high l.j l.next;
      freed : Freed l.image l.scratch.waits l.scratch.free;
    }
