use Rattle.std.proofs.Common.{rules, arith}
use Rattle.nesting.specs.Climbing.{steps-fall}
use Rattle.flattening.specs.Order.{path-none, path-fits, path-more, path-met, path-end}
use Rattle.flattening.proofs.order.climb.Goals as goal

pub loop-c-init : goal.loop-c-init
loop-c-init c = path-none c.told-placed c.told-path

pub returns-then-placed-c : goal.returns-then-placed-c
returns-then-placed-c c = search (rules, path-met)

pub offset_bounds-path-count : goal.offset_bounds-path-count
offset_bounds-path-count c = record { fits = omega (arith, path-fits c.args.image.whole c.loop-c.invariant c.loop-c-test.true c.if-placed-c.false) }

pub bounds-path-count : goal.bounds-path-count
bounds-path-count c = path-fits c.args.image.whole c.loop-c.invariant c.loop-c-test.true c.if-placed-c.false

pub overflow_add-count : goal.overflow_add-count
overflow_add-count c = record { fits = omega (arith, path-fits c.args.image.whole c.loop-c.invariant c.loop-c-test.true c.if-placed-c.false) }

pub loop-c-smaller : goal.loop-c-smaller
loop-c-smaller c = search (rules, steps-fall)

pub loop-c-preserved : goal.loop-c-preserved
loop-c-preserved c = path-more c.args.image.whole c.loop-c.invariant c.loop-c-test.true c.if-placed-c.false c.parent_of-c.ensures (search (rules, steps-fall))

pub returns : goal.returns
returns c = search (rules, path-end)
