use Rattle.nesting.specs.Climbing.{steps}
use Rattle.flattening.specs.Order.{Path}
use Rattle.flattening.proofs.order.climb.Given as goal

abbrev pub invariant-loop-c : goal.invariant-loop-c
invariant-loop-c l = Path l.image.bytes.now l.image.nodes l.fn.placed l.i l.c l.placed l.path l.count

abbrev pub decreases-loop-c : goal.decreases-loop-c
decreases-loop-c l = steps l.image.bytes.now l.c
