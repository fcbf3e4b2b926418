use Rattle.wide.specs.Number.{rows-set}
use Rattle.std.proofs.Common.{arith}
use Rattle.std.proofs.Common.{rules}
use Rattle.wide.proofs.set_row.Goals as goal

pub returns : goal.returns
returns c = rows-set _ _ _ _ _ (omega arith) (omega arith) c.put_row.ensures
