use Rattle.std.proofs.Common.{◌≡◌}
use Rattle.general.specs.Below.{tally}
use Rattle.nesting.specs.Tables.{is_event_in, EventNodes}
use Rattle.nesting.proofs.event_nodes.Given as goal

abbrev pub invariant-loop-i : goal.invariant-loop-i
invariant-loop-i l = (l.e ≡ tally l.i (is_event_in l.groups)) × EventNodes l.groups l.i l.nodes
