-- `index::write::put_order`: the rules so far.
use Rattle.rule_order.specs.Freed.{Freed}
use Rattle.index.proofs.Writing.{Putting}
use Rattle.index.proofs.write.put_order.Given as goal

abbrev pub invariant-loop-j : goal.invariant-loop-j
invariant-loop-j l =
    record {
      put : Putting l.image l.stage l.fn.room l.at l.counted l.scan l.scratch.targeted l.scratch.waits l.scratch.written l.ranges.low l.ranges.high l.j l.next l.room;
      freed : Freed l.image l.scratch.waits l.scratch.free;
    }
