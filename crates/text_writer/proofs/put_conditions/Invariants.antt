use Rattle.paper.specs.Limits.{max_events}
use Rattle.book.specs.ImageOf.{condition_bytes}
use Rattle.std.proofs.Common.{◌≡◌, ◌≤◌, ◌+◌, ◌*◌}
use Rattle.flat_chart.specs.Numbers.{lent_of}
use Rattle.derived.specs.Parts.{condition_part}
use Rattle.derived.specs.Sizes.{texts_size}
use Rattle.derived.specs.WritingLoops.{Upto}
use Rattle.text_writer.proofs.put_conditions.Given as goal

-- the records of the events passed are written, and start is behind their texts
abbrev pub invariant-loop-e : goal.invariant-loop-e
invariant-loop-e l =
    let c = lent_of l.chart in
    record {
      written : Upto condition_bytes (condition_part c.count c.conditions c.milestones) c.count l.fn.room l.at l.e l.next l.room;
      counted : l.start ≡ texts_size l.e c.conditions c.milestones;
      few : l.start ≤ (10 * max_events + 1) * l.e;
    }
