use Rattle.general.specs.Lists.{total}
use Rattle.derived.proofs.RuleBytes.{part-fits, part-wrote}
use Rattle.derived.specs.RuleBytes.{text-small, texts-more}
use Rattle.derived.specs.Sizes.{texts_size}
use Rattle.derived.specs.WritingLoops.{upto-start, upto-fits, upto-more, upto_done}
use Rattle.std.proofs.Common.{refl, arith}
use Rattle.text_writer.proofs.put_conditions.Goals as goal

pub loop-e-init : goal.loop-e-init
unfolding texts_size total
loop-e-init c = record { written = upto-start _ _ _ _ _; counted = refl; few = omega arith }

pub put_condition-next-requires : goal.put_condition-next-requires
put_condition-next-requires c =
    let p = c.requires in
    let i = c.loop-e.invariant in
    let h = c.loop-e-test.true in
    let q = c.text_size-count.ensures in (
      omega arith,
      omega (arith, text-small _ _ _ p.0 p.1 _ _ h q),
      part-fits _ _ _ p.1 _ _ _ h i.counted q _ _ (upto-fits _ _ _ _ _ _ _ _ i.written h p.2),
    )

pub overflow_add-start : goal.overflow_add-start
overflow_add-start c = omega (arith, text-small _ _ _ c.requires.0 c.requires.1 _ _ c.loop-e-test.true c.text_size-count.ensures)

pub loop-e-preserved : goal.loop-e-preserved
loop-e-preserved c =
    let p = c.requires in
    let i = c.loop-e.invariant in
    let h = c.loop-e-test.true in
    let q = c.text_size-count.ensures in
    record {
      written = upto-more _ _ _ _ _ _ _ _ i.written _ _ h (part-wrote _ _ _ p.1 _ _ _ h i.counted q _ _ c.put_condition-next.ensures);
      counted = texts-more _ _ _ p.0 p.1 _ _ h q _ i.counted;
      few = omega (arith, text-small _ _ _ p.0 p.1 _ _ h q);
    }

pub returns : goal.returns
returns c = upto_done _ _ _ _ _ _ _ _ c.loop-e.invariant.written c.loop-e-test.false
