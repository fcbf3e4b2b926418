use Rattle.senses.specs.Senses.{side}
use Rattle.std.proofs.Common.{arith}
use Rattle.std.proofs.Common.{rules}
use Rattle.senses.proofs.side.Goals as goal

pub returns-then-set : goal.returns-then-set
returns-then-set c = (unfold side in rw c.if-set.true, omega arith)

pub returns-else-set : goal.returns-else-set
returns-else-set c = (unfold side in rw c.if-set.false (omega arith), omega arith)
