-- `index::rising::last_targets`: the rules so far.
use Rattle.index.specs.Ascending.{Targeted}
use Rattle.index.proofs.rising.last_targets.Given as goal

abbrev pub invariant-loop-r : goal.invariant-loop-r
invariant-loop-r l = Targeted l.image l.r l.last
