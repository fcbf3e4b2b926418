use Rattle.std.proofs.Common.{◌≡◌}
use Rattle.general.specs.Below.{tally}
use Rattle.nesting.specs.Tables.{is_event_in}
use Rattle.nesting.proofs.count_events.Given as goal

abbrev pub invariant-loop-i : goal.invariant-loop-i
invariant-loop-i l = l.count ≡ tally l.i (is_event_in l.groups)
