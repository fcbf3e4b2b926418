use Rattle.general.specs.Below.{tally}
use Rattle.loop_cuts.specs.Walking.{Climb, blank}
use Rattle.loop_cuts.proofs.climb.Given as goal

abbrev pub invariant-loop-c : goal.invariant-loop-c
invariant-loop-c l = Climb l.image.bytes.now l.image.nodes l.a l.c l.fn.stamps l.stamps

abbrev pub decreases-loop-c : goal.decreases-loop-c
decreases-loop-c l = tally l.image.nodes (blank l.stamps)
