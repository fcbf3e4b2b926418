use Rattle.flattening.specs.Rows.{node_rows, Entered}
use Rattle.flattening.proofs.Layout.enter_all.Given as goal

abbrev pub invariant-loop-e : goal.invariant-loop-e
invariant-loop-e l = Entered l.self.image.bytes.now l.self.nodes.now l.self.image.nodes l.e (node_rows l.self.image.nodes l.all)
