use Rattle.general.specs.Writing.{Runs}
use Rattle.mending.specs.OfImage.{relation_part}
use Rattle.mend_writer.proofs.Repair.put_relations.Given as goal

abbrev pub invariant-loop-k : goal.invariant-loop-k
invariant-loop-k l = Runs (relation_part l.self.image.bytes.now) l.self.image.relations l.fn.chart l.at l.k l.next l.chart
