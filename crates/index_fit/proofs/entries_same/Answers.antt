-- `index_fit::entries_same`.
use Rattle.std.proofs.Common.{arith, ap}
use Rattle.std.specs.Prelude.{not}
use Rattle.index_fit.proofs.Comparing.{entering-first, entering-small, entering-fits, entering-not, entering-more, entering-done}
use Rattle.index_fit.proofs.entries_same.Goals as goal

pub loop-stage-init : goal.loop-stage-init
loop-stage-init c = search entering-first

pub order_size-size-requires : goal.order_size-size-requires
order_size-size-requires c = let z = c.requires.0 in let l = z.few in (omega (arith, c.loop-stage-test.true), z.each _ c.loop-stage-test.true)

pub pair_same-requires : goal.pair_same-requires
pair_same-requires c = search entering-fits

pub returns-then-not-pair_same : goal.returns-then-not-pair_same
returns-then-not-pair_same c = entering-not _ _ _ _ _ _ _ _ c.loop-stage.invariant _ _ c.loop-stage-test.true c.order_size-size.ensures c.pair_same.ensures (ap not c.if-not-pair_same.true)

pub overflow_cast-offset : goal.overflow_cast-offset
overflow_cast-offset c = omega (arith, entering-small _ _ _ _ _ _ _ _ c.loop-stage.invariant c.requires.0)

pub overflow_add-next : goal.overflow_add-next
overflow_add-next c = omega (arith, entering-fits _ _ _ _ _ _ _ _ c.loop-stage.invariant c.requires.1 c.loop-stage-test.true, c.well_formed)

pub overflow_add-offset-in-loop-stage : goal.overflow_add-offset-in-loop-stage
overflow_add-offset-in-loop-stage c =
    omega (arith, c.requires.0.each _ c.loop-stage-test.true, c.order_size-size.ensures, entering-small _ _ _ _ _ _ _ _ c.loop-stage.invariant c.requires.0)

pub loop-stage-preserved : goal.loop-stage-preserved
loop-stage-preserved c = entering-more _ _ _ _ _ _ _ _ c.loop-stage.invariant _ _ c.loop-stage-test.true c.order_size-size.ensures c.pair_same.ensures (ap not c.if-not-pair_same.false)

pub returns : goal.returns
returns c = search entering-done
