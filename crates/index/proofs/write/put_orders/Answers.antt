-- `index::write::put_orders`.
use Rattle.std.proofs.Common.{arith}
use Rattle.general.specs.Writing.{runs-start, runs-fits, runs-more, runs_done}
use Rattle.index.specs.Spans.{spans-span}
use Rattle.index.proofs.Ascending.{opened-rules}
use Rattle.index.proofs.write.put_orders.Goals as goal

pub of-places-requires : goal.of-places-requires
of-places-requires c = (c.requires.0.formed, opened-rules _ _ c.requires.0)

pub loop-stage-init : goal.loop-stage-init
loop-stage-init c = search runs-start

pub span-span-requires : goal.span-span-requires
span-span-requires c = (omega (arith, c.requires.1, c.loop-stage-test.true), c.of-places.ensures.bounded)

pub put_stage-next-requires : goal.put_stage-next-requires
put_stage-next-requires c = let p = c.requires in
    let e = opened-rules _ _ p.0 in
    let h = c.loop-stage-test.true in (
      p.0.formed,
      e,
      spans-span _ _ p.0.formed e _ _ c.of-places.ensures _ _ _ _ _ c.span-span.ensures,
      p.2 _ h,
      λ y. c.ascends-rising.ensures y _,
      runs-fits _ _ _ _ _ _ _ c.loop-stage.invariant h p.3,
    )

pub loop-stage-preserved : goal.loop-stage-preserved
loop-stage-preserved c = runs-more _ _ _ _ _ _ _ c.loop-stage.invariant _ _ c.loop-stage-test.true c.put_stage-next.ensures

pub returns : goal.returns
returns c = search runs_done
