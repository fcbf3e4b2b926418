use Rattle.std.proofs.Common.{arith}
use Rattle.loop_cuts.specs.Walking.{noted-none, low-in, noted-same, noted_more}
use Rattle.loop_cuts.proofs.lowest_of_loops.Goals.{in-Some, in_default}
use Rattle.loop_cuts.proofs.lowest_of_loops.Goals as goal

pub loop-start-init : goal.loop-start-init
loop-start-init c = noted-none _ _ _ c.args.image.whole

pub bounds-cut-low : goal.bounds-cut-low
bounds-cut-low c = low-in c.args.image.whole c.lowest_round-low.ensures

pub loop-start-preserved : goal.loop-start-preserved
loop-start-preserved c =
    elim c.match-climb.branch [
      | in-Some w ↦ let m = w.in-Some.ensures in noted_more c.loop-start.invariant m.1 c.args.image.whole c.loop-start-test.true m.0 w.lowest_round-low.ensures w.cut-is
      | in_default w ↦ noted-same c.loop-start.invariant w.in_default.ensures c.loop-start-test.true (omega arith) w.cut-is
    ]
