use Rattle.loop_search.proofs.Rounds.{Hitting}
use Rattle.loop_search.proofs.hits_of.Given as goal

abbrev pub invariant-loop-r : goal.invariant-loop-r
invariant-loop-r l = Hitting l.image l.rules l.stage l.base l.reach.reached l.reach.asked l.hits l.r
