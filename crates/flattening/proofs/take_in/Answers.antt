use Rattle.std.proofs.Common.{arith}
use Rattle.wide.specs.Number.{rows_join}
use Rattle.flattening.proofs.take_in.Goals as goal

pub returns : goal.returns
returns c = rows_join _ _ _ _ _ _ _ (omega arith) (omega arith) c.row_in.ensures c.join-all.ensures c.put_row.ensures
