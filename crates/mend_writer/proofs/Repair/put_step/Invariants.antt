use Rattle.general.specs.Writing.{Runs}
use Rattle.mend_writer.specs.Steps.{entry_part}
use Rattle.mend_writer.specs.Numbers.{step_number}
use Rattle.mend_writer.proofs.Repair.put_step.Given as goal

abbrev pub invariant-loop-i : goal.invariant-loop-i
invariant-loop-i l = Runs (entry_part l.self.image.bytes.now (step_number l.step)) l.self.image.nodes l.fn.list l.at l.i l.next l.list
