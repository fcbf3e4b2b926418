-- `index::sizes::Sizes::of`.
use Rattle.std.proofs.Common.{arith, refl, ap}
use Rattle.index.specs.Sizes.{tabled-first, tabled-few, tabled-small, tabled-other, tabled-completed, tabled-last}
use Rattle.index.specs.declared.sizes.Sizes.{Sizes}
use Rattle.index.proofs.sizes.Sizes.of.Goals.{then-image-at-ne-TRIGGER_COMPLETED, else-image-at-ne-TRIGGER_COMPLETED}
use Rattle.index.proofs.sizes.Sizes.of.Goals as goal

pub loop-r-init : goal.loop-r-init
loop-r-init c = tabled-first _ _ c.requires.0 c.requires.1 _ refl

pub overflow_add-sizes : goal.overflow_add-sizes
overflow_add-sizes c = omega (arith, tabled-few _ _ c.requires.0 c.requires.1 _ _ _ c.loop-r.invariant c.loop-r-test.true)

pub overflow_add-sizes-else-image-at-ne-TRIGGER_COMPLETED : goal.overflow_add-sizes-else-image-at-ne-TRIGGER_COMPLETED
overflow_add-sizes-else-image-at-ne-TRIGGER_COMPLETED c =
    omega (arith, tabled-small _ _ c.requires.0 c.requires.1 _ _ _ c.loop-r.invariant c.loop-r-test.true _ c.if-image-at-ne-TRIGGER_COMPLETED.false c.u16_at-t.ensures)

pub loop-r-preserved : goal.loop-r-preserved
loop-r-preserved c =
    elim c.if-image-at-ne-TRIGGER_COMPLETED.branch [
      | then-image-at-ne-TRIGGER_COMPLETED w ↦ tabled-other _ _ c.requires.0 c.requires.1 _ _ _ c.loop-r.invariant c.loop-r-test.true
          w.if-image-at-ne-TRIGGER_COMPLETED.true _ _ (ap (λ (z : Sizes). z.stages) w.sizes-is) (ap (λ (z : Sizes). z.common) w.sizes-is)
      | else-image-at-ne-TRIGGER_COMPLETED w ↦ tabled-completed _ _ c.requires.0 c.requires.1 _ _ _ c.loop-r.invariant c.loop-r-test.true _
          w.if-image-at-ne-TRIGGER_COMPLETED.false w.u16_at-t.ensures _ _ (ap (λ (z : Sizes). z.stages) w.sizes-is) (ap (λ (z : Sizes). z.common) w.sizes-is)
    ]

pub returns : goal.returns
returns c = search tabled-last
