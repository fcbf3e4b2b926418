use Rattle.general.specs.Lists.{total}
use Rattle.derived.specs.Sizes.{texts_size}
use Rattle.derived.specs.RuleBytes.{text-small, texts-more}
use Rattle.std.proofs.Common.{refl, arith}
use Rattle.text_writer.proofs.texts_size.Goals as goal

pub loop-e-init : goal.loop-e-init
unfolding texts_size total
loop-e-init c = record { counted = refl; few = omega arith }

pub overflow_add-sum : goal.overflow_add-sum
overflow_add-sum c = omega (arith, text-small _ _ _ c.requires.0 c.requires.1 _ _ c.loop-e-test.true c.text_size-sum.ensures)

pub loop-e-preserved : goal.loop-e-preserved
loop-e-preserved c =
    let p = c.requires in
    record {
      counted = texts-more _ _ _ p.0 p.1 _ _ c.loop-e-test.true c.text_size-sum.ensures _ c.loop-e.invariant.counted;
      few = omega (arith, text-small _ _ _ p.0 p.1 _ _ c.loop-e-test.true c.text_size-sum.ensures);
    }
