use Rattle.std.proofs.Common.{arith, refl}
use Rattle.general.specs.Lists.{total}
use Rattle.smaller.specs.Loops.{upto-start, upto-under, upto-more}
use Rattle.smaller_texts.proofs.Texts.{starts-small, starts_more, record-under, record-by-ran}
use Rattle.smaller_texts.proofs.put_conditions.Goals as goal

pub loop-e-init : goal.loop-e-init
unfolding total
loop-e-init c = record { ran = upto-start; before = refl }

pub put_record-next-requires : goal.put_record-next-requires
put_record-next-requires c =
    let small = starts-small c.args.sizes.now _ _ _ c.loop-e-test.true c.loop-e.invariant.before c.requires.1 in (
      omega arith,
      omega arith,
      record-under c.args.sizes.now _ _ _ c.loop-e-test.true c.loop-e.invariant.before _ (upto-under c.loop-e.invariant.ran c.loop-e-test.true c.requires.2),
    )

pub overflow_add-start : goal.overflow_add-start
overflow_add-start c = omega (arith, starts-small c.args.sizes.now _ _ _ c.loop-e-test.true c.loop-e.invariant.before c.requires.1)

pub loop-e-preserved : goal.loop-e-preserved
loop-e-preserved c =
    record {
      ran = upto-more c.loop-e.invariant.ran c.loop-e-test.true
          (record-by-ran c.args.sizes.now _ _ _ c.loop-e-test.true c.loop-e.invariant.before c.put_record-next.ensures);
      before = starts_more c.args.sizes.now _ _ _ c.loop-e-test.true c.loop-e.invariant.before;
    }
