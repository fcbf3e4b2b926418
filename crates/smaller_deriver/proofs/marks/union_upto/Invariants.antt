use Rattle.std.proofs.Common.{◌≡◌}
use Rattle.wide.specs.Number.{number, rows_of}
use Rattle.smaller.specs.Kept.{union_upto}
use Rattle.smaller_deriver.proofs.marks.union_upto.Given as goal

-- all holds the sets passed
abbrev pub invariant-loop-e : goal.invariant-loop-e
invariant-loop-e l = number l.all ≡ union_upto l.e (rows_of l.table)
