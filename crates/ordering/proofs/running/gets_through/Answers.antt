use Rattle.std.proofs.Common.{arith}
use Rattle.ordering.specs.Turning.{ranges-long}
use Rattle.ordering.proofs.Through.{through-first, through-last, through-stuck, through-more}
use Rattle.ordering.proofs.running.gets_through.Goals as goal

pub count_targets-counted-requires : goal.count_targets-counted-requires
count_targets-counted-requires c = (c.requires.0, c.requires.1, c.all.ensures _)

pub loop-init : goal.loop-init
loop-init c =
    let a = c.count_targets-counted.ensures in
    let l = ranges-long _ c.empty-ranges.ensures in
    record { through = through-first _ _ _ _ _ _ _ _ _ c.start-scan.ensures l.0 l.1 a.value.0 a.value.1; freed = a.freed }

pub returns-in-None : goal.returns-in-None
returns-in-None c = through-stuck _ _ c.requires.0 _ _ _ _ _ _ _ _ c.loop.invariant.through c.loop-test.true c.in-None.ensures.turn

pub loop-preserved : goal.loop-preserved
loop-preserved c =
    let t = c.in-Some.ensures.turn in
    record { through = through-more _ _ c.requires.0 _ _ _ _ _ _ _ _ c.loop.invariant.through c.loop-test.true _ _ _ _ _ _ t.0 t.1; freed = c.in-Some.ensures.freed }

pub returns : goal.returns
returns c = through-last _ _ c.requires.0 _ _ _ _ _ _ _ _ c.loop.invariant.through (omega arith)
