use Rattle.wide.specs.Number.{rows_join}
use Rattle.std.proofs.Common.{arith}
use Rattle.std.proofs.Common.{rules}
use Rattle.wide.proofs.join_row.Goals as goal

pub returns : goal.returns
returns c = rows_join 256 _ _ _ _ _ _ (omega arith) (omega arith) c.row_in.ensures c.join-all.ensures c.put_row.ensures
