use Rattle.std.proofs.Common.{◌≡◌}
use Rattle.rule_order.specs.Nets.{rules_of}
use Rattle.unwritten.specs.Counters.{Counting}
use Rattle.unwritten.proofs.waiting.count_span.Given as goal

abbrev pub invariant-loop-r : goal.invariant-loop-r
invariant-loop-r l =
    record {
      counting : Counting (rules_of l.image l.stage) l.counted l.r l.scratch.targeted l.scratch.waits l.scratch.written;
      kept : l.scratch.free ≡ l.fn.scratch.free;
    }
