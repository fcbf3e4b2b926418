use Rattle.flattening.specs.Rows.{node_rows, Gathered}
use Rattle.flattening.specs.Flattening.{kind_number}
use Rattle.flattening.specs.Kinds.{kind_of_code}
use Rattle.flattening.proofs.Layout.gather.Given as goal

abbrev pub invariant-loop-r : goal.invariant-loop-r
invariant-loop-r l = Gathered l.self.image.bytes.now (node_rows l.self.image.nodes l.members) l.self.image.nodes (kind_number (kind_of_code l.kind)) l.r (node_rows l.self.image.nodes l.gathered)
