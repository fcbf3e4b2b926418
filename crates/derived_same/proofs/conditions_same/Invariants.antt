use Rattle.paper.specs.Limits.{max_events}
use Rattle.book.specs.ImageOf.{condition_bytes}
use Rattle.general.specs.Comparing.{Stand}
use Rattle.general.specs.Lists.{packed}
use Rattle.std.proofs.Common.{ℕ, ◌≡◌, ◌≤◌, ◌+◌, ◌*◌}
use Rattle.flat_chart.specs.Numbers.{lent_of}
use Rattle.derived.specs.Parts.{condition_part}
use Rattle.derived.specs.Sizes.{texts_size}
use Rattle.derived_same.proofs.conditions_same.Given as goal

-- the records of the events passed stand, and start is behind their texts
abbrev pub invariant-loop-e : goal.invariant-loop-e
invariant-loop-e l =
    let c = lent_of l.chart in
    record {
      stand : Stand (λ (e : ℕ). packed condition_bytes (condition_part c.count c.conditions c.milestones e)) c.count l.image l.at l.e l.next;
      counted : l.start ≡ texts_size l.e c.conditions c.milestones;
      few : l.start ≤ (10 * max_events + 1) * l.e;
    }
