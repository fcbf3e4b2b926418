use Rattle.general.specs.Lists.{total}
use Rattle.general.specs.Comparing.{stand-start, stand-done}
use Rattle.derived.specs.Putting.{flat-packed, by_parts}
use Rattle.derived.specs.RuleBytes.{text-small, texts-more}
use Rattle.derived.specs.Sizes.{texts_size}
use Rattle.derived.proofs.RuleBytes.{part-wrote}
use Rattle.derived_same.proofs.Comparing.{record-short, part-room, part-not, part-more}
use Rattle.std.proofs.Common.{refl, arith}
use Rattle.derived_same.proofs.conditions_same.Goals as goal

pub loop-e-init : goal.loop-e-init
unfolding texts_size total
loop-e-init c = record { stand = stand-start _ _ _ _; counted = refl; few = omega arith }

pub put_condition-count-requires : goal.put_condition-count-requires
put_condition-count-requires c =
    let p = c.requires in
    let h = c.loop-e-test.true in
    let i = c.loop-e.invariant in
    let q = c.text_size-size.ensures in (
      omega arith,
      omega (arith, text-small _ _ _ p.0 p.1 _ _ h q),
      omega arith,
    )

pub part_stands-requires : goal.part_stands-requires
part_stands-requires c =
    let p = c.requires in
    let h = c.loop-e-test.true in
    let i = c.loop-e.invariant in
    part-room _ _ _ _ _ _ i.stand h (rw (c.loop-e.auto.part, p.2) (record-short _ _ _ _))
    (part-wrote _ _ _ p.1 _ _ _ h i.counted c.text_size-size.ensures _ _ c.put_condition-count.ensures) (by_parts _ _ _ _ _ p.3)

pub returns-then-not-part_stands : goal.returns-then-not-part_stands
returns-then-not-part_stands c =
    let p = c.requires in
    let h = c.loop-e-test.true in
    let i = c.loop-e.invariant in
    rw flat-packed (
    part-not _ _ _ _ _ _ i.stand h (rw (c.loop-e.auto.part, p.2) (record-short _ _ _ _))
    (part-wrote _ _ _ p.1 _ _ _ h i.counted c.text_size-size.ensures _ _ c.put_condition-count.ensures) c.part_stands.ensures c.if-not-part_stands.true)

pub overflow_add-next : goal.overflow_add-next
overflow_add-next c =
    let p = c.requires in
    let h = c.loop-e-test.true in
    let i = c.loop-e.invariant in
    omega (
      arith,
      part-room _ _ _ _ _ _ i.stand h (rw (c.loop-e.auto.part, p.2) (record-short _ _ _ _))
          (part-wrote _ _ _ p.1 _ _ _ h i.counted c.text_size-size.ensures _ _ c.put_condition-count.ensures) (by_parts _ _ _ _ _ p.3),
    )

pub overflow_add-start : goal.overflow_add-start
overflow_add-start c = omega (arith, text-small _ _ _ c.requires.0 c.requires.1 _ _ c.loop-e-test.true c.text_size-size.ensures)

pub loop-e-preserved : goal.loop-e-preserved
loop-e-preserved c =
    let p = c.requires in
    let h = c.loop-e-test.true in
    let i = c.loop-e.invariant in
    let q = c.text_size-size.ensures in
    record {
      stand = part-more _ _ _ _ _ _ i.stand h (rw (c.loop-e.auto.part, p.2) (record-short _ _ _ _)) (part-wrote _ _ _ p.1 _ _ _ h i.counted q _ _ c.put_condition-count.ensures)
          c.part_stands.ensures c.if-not-part_stands.false;
      counted = texts-more _ _ _ p.0 p.1 _ _ h q _ i.counted;
      few = omega (arith, text-small _ _ _ p.0 p.1 _ _ h q);
    }

pub returns : goal.returns
returns c = rw flat-packed (stand-done _ _ _ _ _ _ c.loop-e.invariant.stand c.loop-e-test.false)
