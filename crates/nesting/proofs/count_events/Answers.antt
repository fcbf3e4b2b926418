use Rattle.std.proofs.Common.{arith}
use Rattle.general.specs.Numbering.{tally-none, tally-more, byte_le}
use Rattle.general.specs.Below.{tally-le}
use Rattle.nesting.specs.Tables.{is_event_in}
use Rattle.nesting.proofs.count_events.Goals as goal

pub loop-i-init : goal.loop-i-init
loop-i-init c = tally-none _

pub overflow_add-count : goal.overflow_add-count
overflow_add-count c = let f = is_event_in c.args.groups.now in record { fits = omega (arith, tally-le c.loop-i.i f, byte_le (f c.loop-i.i)) }

pub loop-i-preserved : goal.loop-i-preserved
loop-i-preserved c = tally-more _ _ _ c.loop-i.invariant
