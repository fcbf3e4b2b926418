use Rattle.paper.specs.Limits.{max_events}
use Rattle.std.proofs.Common.{◌≡◌, ◌≤◌, ◌+◌, ◌*◌}
use Rattle.flat_chart.specs.Numbers.{lent_of}
use Rattle.derived.specs.Sizes.{completions_size}
use Rattle.rule_writer.proofs.completions_size.Given as goal

-- the rules of the events passed are counted, and are few
abbrev pub invariant-loop-e : goal.invariant-loop-e
invariant-loop-e l =
    record {
      counted : l.sum ≡ completions_size l.e (lent_of l.chart).includes (lent_of l.chart).excludes (lent_of l.chart).responses;
      few : l.sum ≤ (2 * max_events + 1) * l.e;
    }
