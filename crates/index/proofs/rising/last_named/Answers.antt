-- `index::rising::last_named`.
use Rattle.std.proofs.Common.{arith}
use Rattle.index.proofs.Ascending.{above-first, above_more, above-last}
use Rattle.index.proofs.rising.last_named.Goals as goal

pub loop-i-init : goal.loop-i-init
loop-i-init c = above-first _ _

pub loop-i-preserved : goal.loop-i-preserved
loop-i-preserved c = above_more _ _ _ _ _ _ c.loop-i.invariant c.loop-i-test.true _ _ _ c.u16_at-word.ensures c.last_of.ensures (omega arith, omega arith)

pub returns : goal.returns
returns c = above-last _ _ _ _ _ _ c.loop-i.invariant c.loop-i-test.false
