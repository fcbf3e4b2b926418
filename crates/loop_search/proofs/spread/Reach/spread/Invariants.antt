use Rattle.std.proofs.Common.{◌+◌}
use Rattle.loop_search.specs.Spreading.{missing}
use Rattle.loop_search.proofs.Passing.{Spreading}
use mir.Val.{bool_byte}
use Rattle.loop_search.proofs.spread.Reach.spread.Given as goal

abbrev pub invariant-loop-more : goal.invariant-loop-more
invariant-loop-more l = Spreading l.image l.counts l.stage l.fn.self.reached l.self.reached l.self.asked l.more

abbrev pub decreases-loop-more : goal.decreases-loop-more
decreases-loop-more l = missing l.self.reached + bool_byte l.more
