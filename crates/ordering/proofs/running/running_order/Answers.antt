use Rattle.std.proofs.Common.{arith}
use Rattle.ordering.specs.Turning.{ranges-long}
use Rattle.ordering.proofs.Listing.{room-short, listed-first, listed_more, listed-last}
use Rattle.ordering.proofs.running.running_order.Goals as goal

pub count_targets-counted-requires : goal.count_targets-counted-requires
count_targets-counted-requires c = (c.requires.0, c.requires.1, c.all.ensures _)

pub returns-then-room-counted : goal.returns-then-room-counted
returns-then-room-counted c =
    let e = c.count_targets-counted.ensures.value.0 in
    (e, room-short _ _ _ _ e c.if-room-counted.true)

pub loop-j-init : goal.loop-j-init
loop-j-init c =
    let a = c.count_targets-counted.ensures in
    let l = ranges-long _ c.empty-ranges.ensures in
    record { listed = listed-first _ _ _ _ _ _ _ _ _ _ c.start-scan.ensures l.0 l.1 c.requires.0 c.requires.2 a.value.0 a.value.1 c.if-room-counted.false; freed = a.freed }

pub loop-j-preserved : goal.loop-j-preserved
loop-j-preserved c =
    let t = c.in-Some.ensures.turn in
    record { listed = listed_more _ _ _ _ _ _ _ _ _ _ _ _ c.loop-j.invariant.listed _ _ _ _ _ _ t.0 c.loop-j-test.true; freed = c.in-Some.ensures.freed }

pub returns : goal.returns
returns c = (c.count_targets-counted.ensures.value.0, listed-last _ _ _ _ _ _ _ _ _ _ _ _ c.loop-j.invariant.listed (omega arith))
