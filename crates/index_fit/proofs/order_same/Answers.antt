-- `index_fit::order_same`.
use Rattle.std.proofs.Common.{arith, ap}
use Rattle.std.specs.Prelude.{not}
use Rattle.ordering.specs.Turning.{ranges-long}
use Rattle.index_fit.proofs.Comparing.{following-first, following-fits, following-not, following-more, following-done}
use Rattle.index_fit.proofs.order_same.Goals as goal

pub count_targets-counted-requires : goal.count_targets-counted-requires
count_targets-counted-requires c = (c.requires.0, c.requires.1, c.all.ensures _)

pub loop-j-init : goal.loop-j-init
loop-j-init c = let a = c.count_targets-counted.ensures in
    let l = ranges-long _ c.empty-ranges.ensures in
    record {
      same = following-first _ _ _ _ _ _ _ _ _ _ _ c.start-scan.ensures l.0 l.1 c.requires.0 c.requires.2 a.value.0 a.value.1;
      freed = a.freed;
    }

pub rule_same-requires : goal.rule_same-requires
rule_same-requires c = following-fits _ _ _ _ _ _ _ _ _ _ _ _ _ c.loop-j.invariant.same c.requires.3 c.loop-j-test.true

pub returns-then-not-rule_same : goal.returns-then-not-rule_same
returns-then-not-rule_same c = following-not _ _ _ _ _ _ _ _ _ _ _ _ _ c.loop-j.invariant.same _ _ _ _ _ _ c.in-Some.ensures.turn.0 _ c.loop-j-test.true c.rule_same.ensures (ap not c.if-not-rule_same.true)

pub overflow_add-next : goal.overflow_add-next
overflow_add-next c = omega (arith, following-fits _ _ _ _ _ _ _ _ _ _ _ _ _ c.loop-j.invariant.same c.requires.3 c.loop-j-test.true, c.well_formed)

pub loop-j-preserved : goal.loop-j-preserved
loop-j-preserved c = record {
  same = following-more _ _ _ _ _ _ _ _ _ _ _ _ _ c.loop-j.invariant.same _ _ _ _ _ _ c.in-Some.ensures.turn.0 _ c.loop-j-test.true c.rule_same.ensures (ap not c.if-not-rule_same.false);
  freed = c.in-Some.ensures.freed;
}

pub returns : goal.returns
returns c = following-done _ _ _ _ _ _ _ _ _ _ _ _ _ c.loop-j.invariant.same c.loop-j-test.false
