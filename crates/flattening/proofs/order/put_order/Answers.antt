use Rattle.std.proofs.Common.{arith}
use Rattle.flattening.specs.Order.{placed-none, placed-fits, placed-more, placed_end}
use Rattle.flattening.proofs.order.put_order.Goals as goal

pub loop-a-init : goal.loop-a-init
loop-a-init c = placed-none c.args.image.whole

pub append-requires : goal.append-requires
append-requires c = placed-fits c.args.image.whole c.loop-a.invariant c.climb-count.ensures

pub overflow_add-m : goal.overflow_add-m
overflow_add-m c = record { fits = omega (arith, placed-fits c.args.image.whole c.loop-a.invariant c.climb-count.ensures) }

pub loop-a-preserved : goal.loop-a-preserved
loop-a-preserved c = placed-more c.args.image.whole c.loop-a.invariant c.climb-count.ensures c.append.ensures c.parent_of-parent.ensures

pub returns : goal.returns
returns c = placed_end c.args.image.whole c.loop-a-test.false c.loop-a.invariant
