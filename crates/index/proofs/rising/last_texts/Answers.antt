-- `index::rising::last_texts`.
use Rattle.std.proofs.Common.{arith}
use Rattle.index.proofs.Ascending.{opened-conditions, opened-few, asking-first, asking-more, asking-last}
use Rattle.index.proofs.rising.last_texts.Goals as goal

pub loop-c-init : goal.loop-c-init
loop-c-init c = asking-first _ _

pub last_asked-requires : goal.last_asked-requires
last_asked-requires c = (c.requires, omega (arith, opened-conditions _ _ c.requires, c.loop-c-test.true))

pub bounds-asked-c : goal.bounds-asked-c
bounds-asked-c c = omega (arith, opened-few _ _ c.requires, c.loop-c-test.true)

pub loop-c-preserved : goal.loop-c-preserved
loop-c-preserved c = asking-more _ _ _ _ _ c.loop-c.invariant (omega (arith, opened-few _ _ c.requires, c.loop-c-test.true)) c.last_asked.ensures

pub returns : goal.returns
returns c = asking-last _ _ _ _ _ c.loop-c.invariant (omega (arith, opened-conditions _ _ c.requires, c.loop-c-test.false))
