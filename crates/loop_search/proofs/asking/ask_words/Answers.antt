use Rattle.std.proofs.Common.{arith}
use Rattle.loop_search.proofs.Words.{asking-first, asking-more, asking-last}
use Rattle.loop_search.proofs.asking.ask_words.Goals as goal

pub loop-i-init : goal.loop-i-init
loop-i-init c = asking-first _ _ _ _

pub loop-i-preserved : goal.loop-i-preserved
loop-i-preserved c = search asking-more

pub returns : goal.returns
returns c = asking-last _ _ _ _ _ _ c.loop-i.invariant (omega arith)
