use Rattle.loop_chances.proofs.Sorting.{Apart}
use Rattle.loop_chances.proofs.sets_meet.Given as goal

abbrev pub invariant-loop-k : goal.invariant-loop-k
invariant-loop-k l = Apart l.drawn l.waited l.named l.k
