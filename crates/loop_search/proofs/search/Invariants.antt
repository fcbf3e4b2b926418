use Rattle.loop_search.proofs.Rounds.{Searched}
use Rattle.loop_search.proofs.search.Given as goal

abbrev pub invariant-loop-base : goal.invariant-loop-base
invariant-loop-base l = Searched l.image l.counts l.stage l.base
