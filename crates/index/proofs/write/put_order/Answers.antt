-- `index::write::put_order`.
use Rattle.std.proofs.Common.{arith}
use Rattle.ordering.specs.Turning.{ranges-long}
use Rattle.index.proofs.Writing.{putting-first, putting-length, putting-fits, putting-more, putting-last}
use Rattle.index.proofs.write.put_order.Goals as goal

pub loop-j-init : goal.loop-j-init
loop-j-init c = let a = c.count_targets-counted.ensures in
    let l = ranges-long _ c.empty-ranges.ensures in
    record {
      put = putting-first _ _ _ _ _ _ _ _ _ _ _ c.start-scan.ensures l.0 l.1 c.requires.0 c.requires.3 a.value.0 a.value.1;
      freed = a.freed;
    }

pub put32-requires : goal.put32-requires
put32-requires c = putting-fits _ _ _ _ _ _ _ _ _ _ _ _ _ _ c.loop-j.invariant.put c.requires.4 c.loop-j-test.true

pub overflow_add-next : goal.overflow_add-next
overflow_add-next c = omega (arith, putting-fits _ _ _ _ _ _ _ _ _ _ _ _ _ _ c.loop-j.invariant.put c.requires.4 c.loop-j-test.true, putting-length _ _ _ _ _ _ _ _ _ _ _ _ _ _ c.loop-j.invariant.put, c.well_formed)

pub loop-j-preserved : goal.loop-j-preserved
loop-j-preserved c = record {
  put = putting-more _ _ _ _ _ _ _ _ _ _ _ _ _ _ c.loop-j.invariant.put _ _ _ _ _ _ c.in-Some.ensures.turn.0 _ c.loop-j-test.true c.put32.ensures;
  freed = c.in-Some.ensures.freed;
}

pub returns : goal.returns
returns c = putting-last _ _ _ _ _ _ _ _ _ _ _ _ _ _ c.loop-j.invariant.put c.loop-j-test.false
