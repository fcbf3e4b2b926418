-- `index_fit::entries_same`: the stages so far.
use Rattle.index_fit.proofs.Comparing.{Entering}
use Rattle.index_fit.proofs.entries_same.Given as goal

abbrev pub invariant-loop-stage : goal.invariant-loop-stage
invariant-loop-stage l = Entering l.stages l.sizes.stages l.sizes.common l.index l.at l.stage l.next l.offset
