use Rattle.std.proofs.Common.{arith}
use Rattle.general.specs.Numbering.{tally-none, tally-more, byte_le}
use Rattle.general.specs.Below.{tally-le}
use Rattle.nesting.specs.Tables.{is_event_in, numbered-none, numbered_more, number_fits}
use Rattle.nesting.proofs.event_nodes.Goals as goal

pub loop-i-init : goal.loop-i-init
loop-i-init c = (tally-none _, numbered-none _)

pub put_node-requires : goal.put_node-requires
put_node-requires c = λ h. rw c.loop-i.invariant.0 (number_fits _ _ _ c.loop-i-test.true h c.requires.1)

pub overflow_add-e : goal.overflow_add-e
overflow_add-e c = let f = is_event_in c.args.groups.now in record { fits = omega (arith, tally-le c.loop-i.i f, byte_le (f c.loop-i.i)) }

pub loop-i-preserved : goal.loop-i-preserved
loop-i-preserved c = (tally-more _ _ _ c.loop-i.invariant.0, numbered_more c.loop-i.invariant.1 c.loop-i.invariant.0 c.loop-i-test.true c.requires.1 c.put_node.ensures)
