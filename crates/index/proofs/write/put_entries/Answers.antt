-- `index::write::put_entries`.
use Rattle.std.proofs.Common.{arith}
use Rattle.index.proofs.Writing.{entered-first, entered-small, entered-fits, entered-more, entered-last}
use Rattle.index.proofs.write.put_entries.Goals as goal

pub loop-stage-init : goal.loop-stage-init
loop-stage-init c = search entered-first

pub order_size-size-requires : goal.order_size-size-requires
order_size-size-requires c = let z = c.requires.0 in let l = z.few in (omega (arith, c.loop-stage-test.true), z.each _ c.loop-stage-test.true)

pub put_entry-next-requires : goal.put_entry-next-requires
put_entry-next-requires c = let z = c.requires.0 in (
  entered-fits _ _ _ _ _ _ _ _ _ c.loop-stage.invariant c.requires.1 c.loop-stage-test.true,
  omega (arith, entered-small _ _ _ _ _ _ _ _ _ c.loop-stage.invariant z),
  omega (arith, z.each _ c.loop-stage-test.true, c.order_size-size.ensures),
)

pub overflow_add-offset-in-loop-stage : goal.overflow_add-offset-in-loop-stage
overflow_add-offset-in-loop-stage c = omega (arith, c.requires.0.each _ c.loop-stage-test.true, c.order_size-size.ensures, entered-small _ _ _ _ _ _ _ _ _ c.loop-stage.invariant c.requires.0)

pub loop-stage-preserved : goal.loop-stage-preserved
loop-stage-preserved c = search entered-more

pub returns : goal.returns
returns c = search entered-last
