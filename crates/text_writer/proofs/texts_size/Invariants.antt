use Rattle.paper.specs.Limits.{max_events}
use Rattle.std.proofs.Common.{◌≡◌, ◌≤◌, ◌+◌, ◌*◌}
use Rattle.flat_chart.specs.Numbers.{lent_of}
use Rattle.derived.specs.Sizes.{texts_size}
use Rattle.text_writer.proofs.texts_size.Given as goal

-- the words of the texts passed are counted, and are few
abbrev pub invariant-loop-e : goal.invariant-loop-e
invariant-loop-e l =
    record {
      counted : l.sum ≡ texts_size l.e (lent_of l.chart).conditions (lent_of l.chart).milestones;
      few : l.sum ≤ (10 * max_events + 1) * l.e;
    }
