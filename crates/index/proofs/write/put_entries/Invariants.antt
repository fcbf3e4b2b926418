-- `index::write::put_entries`: the stages so far.
use Rattle.index.proofs.Writing.{Entered}
use Rattle.index.proofs.write.put_entries.Given as goal

abbrev pub invariant-loop-stage : goal.invariant-loop-stage
invariant-loop-stage l = Entered l.stages l.sizes.stages l.sizes.common l.fn.room l.at l.stage l.next l.offset l.room
