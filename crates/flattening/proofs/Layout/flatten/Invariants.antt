use Rattle.std.proofs.Common.{get_or}
use Rattle.wide.specs.Number.{rows_of}
use Rattle.records.specs.Image.{parent_of}
use Rattle.flattening.specs.Rows.{node_rows, in_row, with_parent, Flat}
use Rattle.flattening.proofs.Layout.flatten.Given as goal

abbrev pub invariant-loop-e : goal.invariant-loop-e
invariant-loop-e l =
    let rows = (node_rows l.self.image.nodes l.gathered) in
    Flat (λ x f. with_parent l.self.image.bytes.now l.self.image.nodes (in_row rows f (get_or l.self.nodes.now x 0)) rows (parent_of l.self.image.bytes.now (get_or l.self.nodes.now x 0)) f) l.e (rows_of l.table)
