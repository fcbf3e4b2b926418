use Rattle.flattening.specs.Rows.{node_rows, in_row, Handed, Between}
use Rattle.flattening.proofs.Layout.hand_down.Given as goal

abbrev pub invariant-loop-j : goal.invariant-loop-j
invariant-loop-j l =
    let test = in_row (node_rows l.self.image.nodes l.fn.gathered) in
    Handed l.self.image.bytes.now l.self.order.now test l.j (node_rows l.self.image.nodes l.gathered) × Between l.self.image.bytes.now test (node_rows l.self.image.nodes l.gathered)
