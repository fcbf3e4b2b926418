use Rattle.loop_chances.proofs.Sorting.{Sorting}
use Rattle.loop_chances.proofs.sort_rules.Given as goal

abbrev pub invariant-loop-r : goal.invariant-loop-r
invariant-loop-r l = Sorting l.image l.rules l.drawn l.waited l.r
