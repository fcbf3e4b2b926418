use Rattle.general.specs.Writing.{Runs}
use Rattle.mending.specs.OfImage.{node_part}
use Rattle.mend_writer.proofs.Repair.put_nodes.Given as goal

abbrev pub invariant-loop-i : goal.invariant-loop-i
invariant-loop-i l = Runs (node_part l.self.image.bytes.now) l.self.image.nodes l.fn.chart l.at l.i l.next l.chart
