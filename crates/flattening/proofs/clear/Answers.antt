use Rattle.std.proofs.Common.{arith}
use Rattle.flattening.specs.Rows.{clear-more, clear-end}
use Rattle.flattening.proofs.clear.Goals as goal

pub loop-i-preserved : goal.loop-i-preserved
loop-i-preserved c = clear-more _ _ c.loop-i.invariant c.loop-i-test.true (omega arith) c.empty-none.ensures c.put_row.ensures

pub returns : goal.returns
returns c = clear-end _ c.loop-i-test.false c.loop-i.invariant
