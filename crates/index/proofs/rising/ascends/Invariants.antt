-- `index::rising::ascends`: the rules so far.
use Rattle.index.proofs.Ascending.{Lifting}
use Rattle.index.proofs.rising.ascends.Given as goal

abbrev pub invariant-loop-r : goal.invariant-loop-r
invariant-loop-r l = Lifting l.image l.last l.r
