use Rattle.loop_cuts.specs.Walking.{Noted}
use Rattle.loop_cuts.proofs.lowest_of_loops.Given as goal

abbrev pub invariant-loop-start : goal.invariant-loop-start
invariant-loop-start l = Noted l.image.bytes.now l.image.nodes l.start l.cut l.stamps
