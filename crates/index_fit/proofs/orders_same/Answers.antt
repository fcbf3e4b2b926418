-- `index_fit::orders_same`.
use Rattle.std.proofs.Common.{arith, ap}
use Rattle.std.specs.Prelude.{not}
use Rattle.general.specs.Comparing.{stand-start, stand-not, stand-done}
use Rattle.index.specs.Ready.{ready-rules, ready-acyclic, ready-sized}
use Rattle.index_fit.proofs.Comparing.{order-counts, orders-fits, orders-more, orders-small}
use Rattle.index_fit.proofs.orders_same.Goals as goal

pub ascends-rising-requires : goal.ascends-rising-requires
ascends-rising-requires c = c.requires.0.opened

pub loop-stage-init : goal.loop-stage-init
loop-stage-init c = search stand-start

pub order_size-counted-requires : goal.order_size-counted-requires
order_size-counted-requires c = let z = ready-sized _ _ _ _ c.requires.0 in (omega (arith, z.few, c.loop-stage-test.true), z.each _ c.loop-stage-test.true)

pub stage_same-requires : goal.stage_same-requires
stage_same-requires c = let p = c.requires in (
  p.0.opened.formed,
  ready-rules _ _ _ _ p.0,
  ready-acyclic _ _ _ _ p.0 _ c.loop-stage-test.true,
  order-counts _ _ _ _ c.args.index.now p.0 _ _ c.loop-stage-test.true c.order_size-counted.ensures,
  λ y. c.ascends-rising.ensures y _,
  orders-fits _ _ _ _ _ p.0 _ _ _ c.loop-stage.invariant p.1 c.loop-stage-test.true,
)

pub returns-then-not-stage_same : goal.returns-then-not-stage_same
returns-then-not-stage_same c = stand-not _ _ _ _ _ _ c.loop-stage.invariant _ c.loop-stage-test.true c.stage_same.ensures (ap not c.if-not-stage_same.true)

pub overflow_mul-next : goal.overflow_mul-next
overflow_mul-next c = omega (arith, (ready-sized _ _ _ _ c.requires.0).each _ c.loop-stage-test.true, c.order_size-counted.ensures)

pub overflow_add-next : goal.overflow_add-next
overflow_add-next c = omega (arith, orders-small _ _ _ _ _ c.requires.0 _ _ _ c.loop-stage.invariant _ c.requires.1 c.loop-stage-test.true c.order_size-counted.ensures, c.well_formed)

pub loop-stage-preserved : goal.loop-stage-preserved
loop-stage-preserved c = orders-more _ _ _ _ _ c.requires.0 _ _ _ c.loop-stage.invariant _ _ c.loop-stage-test.true c.order_size-counted.ensures c.stage_same.ensures (ap not c.if-not-stage_same.false)

pub returns : goal.returns
returns c = search stand-done
