use Rattle.flattening.specs.Order.{Placed}
use Rattle.flattening.proofs.order.put_order.Given as goal

abbrev pub invariant-loop-a : goal.invariant-loop-a
invariant-loop-a l = Placed l.image.bytes.now l.image.nodes l.a l.order l.m l.placed
