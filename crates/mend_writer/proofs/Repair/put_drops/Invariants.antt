use Rattle.general.specs.Writing.{Runs}
use Rattle.mend_writer.specs.Steps.{drop_part}
use Rattle.mend_writer.proofs.Repair.put_drops.Given as goal

abbrev pub invariant-loop-k : goal.invariant-loop-k
invariant-loop-k l = Runs (drop_part l.self.image.bytes.now) l.self.image.relations l.fn.list l.at l.k l.next l.list
