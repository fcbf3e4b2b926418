use Rattle.derived_same.proofs.Comparing.{runs-reach, runs-fits-1, runs-fits-2, runs-fits-3, runs-fits-4, runs-all, then-and, else-and}
use Rattle.derived_same.proofs.runs_same.Goals.{then-completions_same, else-completions_same, then-stages_same, else-stages_same}
use Rattle.std.proofs.Common.{refl, arith, ◌∙◌}
use Rattle.derived_same.proofs.runs_same.Goals as goal

pub overflow_mul-stages : goal.overflow_mul-stages
overflow_mul-stages c = omega (arith, runs-reach _ _ _ _ _ _ _ _ _ c.requires)

pub overflow_add-stages : goal.overflow_add-stages
overflow_add-stages c = omega (arith, runs-reach _ _ _ _ _ _ _ _ _ c.requires)

pub overflow_add-records : goal.overflow_add-records
overflow_add-records c = omega (arith, runs-reach _ _ _ _ _ _ _ _ _ c.requires)

pub overflow_add-texts : goal.overflow_add-texts
overflow_add-texts c = omega (arith, runs-reach _ _ _ _ _ _ _ _ _ c.requires)

pub completions_same-requires : goal.completions_same-requires
completions_same-requires c = let p = c.requires in (p.few, p.inclusions, p.long, runs-fits-1 _ _ _ _ _ _ _ _ _ p)

pub stages_same-requires : goal.stages_same-requires
stages_same-requires c = let p = c.requires in (p.few, c.completions_same.auto.part ∙ p.long, runs-fits-2 _ _ _ _ _ _ _ _ _ p)

pub conditions_same-requires : goal.conditions_same-requires
conditions_same-requires c = let p = c.requires in (p.few, p.texts, c.if-completions_same.auto.part ∙ c.completions_same.auto.part ∙ p.long, runs-fits-3 _ _ _ _ _ _ _ _ _ p)

pub texts_same-requires : goal.texts_same-requires
texts_same-requires c = let p = c.requires in (p.few, p.texts, c.if-stages_same.auto.part ∙ c.if-completions_same.auto.part ∙ c.completions_same.auto.part ∙ p.long, runs-fits-4 _ _ _ _ _ _ _ _ _ p)

pub returns-then-conditions_same : goal.returns-then-conditions_same
returns-then-conditions_same c =
    runs-all _ _ _ _ _ _ _ _ _ c.requires c.if-completions_same.value c.if-stages_same.value
    (elim c.if-completions_same.branch [
      | then-completions_same w ↦ then-and c.completions_same.ensures w.if-completions_same.true w.stages_same.ensures w.value-is
      | else-completions_same w ↦ else-and _ c.completions_same.ensures w.if-completions_same.false w.value-is
    ])
    (elim c.if-stages_same.branch [
      | then-stages_same w ↦ then-and refl w.if-stages_same.true w.conditions_same.ensures w.value-is
      | else-stages_same w ↦ else-and _ refl w.if-stages_same.false w.value-is
    ])
    (then-and refl c.if-conditions_same.true c.texts_same.ensures refl)

pub returns-else-conditions_same : goal.returns-else-conditions_same
returns-else-conditions_same c =
    runs-all _ _ _ _ _ _ _ _ _ c.requires c.if-completions_same.value c.if-stages_same.value
    (elim c.if-completions_same.branch [
      | then-completions_same w ↦ then-and c.completions_same.ensures w.if-completions_same.true w.stages_same.ensures w.value-is
      | else-completions_same w ↦ else-and _ c.completions_same.ensures w.if-completions_same.false w.value-is
    ])
    (elim c.if-stages_same.branch [
      | then-stages_same w ↦ then-and refl w.if-stages_same.true w.conditions_same.ensures w.value-is
      | else-stages_same w ↦ else-and _ refl w.if-stages_same.false w.value-is
    ])
    (else-and _ refl c.if-conditions_same.false refl)
