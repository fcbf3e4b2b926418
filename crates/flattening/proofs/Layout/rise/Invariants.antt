use Rattle.flattening.specs.Rows.{node_rows, Rising}
use Rattle.flattening.proofs.Layout.rise.Given as goal

abbrev pub invariant-loop-j : goal.invariant-loop-j
invariant-loop-j l = Rising l.self.image.bytes.now l.self.nodes.now l.self.order.now l.self.image.nodes l.self.events l.j (node_rows l.self.image.nodes l.all)
