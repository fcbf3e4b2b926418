use Rattle.flattening.specs.Rows.{node_rows, Cleared}
use Rattle.flattening.proofs.clear.Given as goal

abbrev pub invariant-loop-i : goal.invariant-loop-i
invariant-loop-i l = Cleared (node_rows l.n l.table) l.i
