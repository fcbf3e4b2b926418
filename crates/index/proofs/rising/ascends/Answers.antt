-- `index::rising::ascends`.
use Rattle.std.proofs.Common.{arith}
use Rattle.index.proofs.Ascending.{opened-rules, lifting-first, lifting-more, lifting-last}
use Rattle.index.proofs.rising.ascends.Goals as goal

pub last_targets-requires : goal.last_targets-requires
last_targets-requires c = (c.requires.formed, opened-rules _ _ c.requires)

pub loop-r-init : goal.loop-r-init
loop-r-init c = lifting-first _ _

pub mark_ascends-requires : goal.mark_ascends-requires
mark_ascends-requires c = (c.requires.formed, omega (arith, opened-rules _ _ c.requires, c.loop-r-test.true))

pub text_ascends-requires : goal.text_ascends-requires
text_ascends-requires c = (c.requires.formed, omega (arith, opened-rules _ _ c.requires, c.loop-r-test.true))

pub loop-r-preserved : goal.loop-r-preserved
loop-r-preserved c = lifting-more _ _ _ c.requires.formed c.last_texts.ensures _ c.loop-r.invariant (c.mark_ascends.ensures c.if-not-mark_ascends.false) (c.text_ascends.ensures c.if-not-text_ascends.false)

pub returns : goal.returns
returns c e = lifting-last _ _ _ c.requires.formed c.last_texts.ensures _ _ (opened-rules _ _ c.requires) c.last_targets.ensures c.loop-r.invariant c.loop-r-test.false
