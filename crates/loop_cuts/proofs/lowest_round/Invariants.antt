use Rattle.nesting.specs.Ahead.{ahead}
use Rattle.loop_cuts.specs.Round.{Round}
use Rattle.loop_cuts.proofs.lowest_round.Given as goal

abbrev pub invariant-loop-c : goal.invariant-loop-c
invariant-loop-c l = Round l.image.bytes.now l.met l.low l.c

abbrev pub decreases-loop-c : goal.decreases-loop-c
decreases-loop-c l = ahead l.image.bytes.now l.met l.c
