use Rattle.std.proofs.Common.{arith}
use Rattle.loop_chances.proofs.Sorting.{apart-not, apart_more, apart-last}
use Rattle.loop_chances.proofs.sets_meet.Goals as goal

pub returns-then-words_meet : goal.returns-then-words_meet
returns-then-words_meet c = apart-not _ _ _ _ c.loop-k.invariant _ c.words_meet.ensures (omega arith) c.if-words_meet.true

pub loop-k-preserved : goal.loop-k-preserved
loop-k-preserved c = search apart_more

pub returns : goal.returns
returns c = search apart-last
