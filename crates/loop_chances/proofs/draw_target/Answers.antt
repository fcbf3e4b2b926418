use Rattle.loop_chances.proofs.Sorting.{target-drawn, target_left}
use Rattle.loop_chances.proofs.draw_target.Goals as goal

pub returns-then-image-at : goal.returns-then-image-at
returns-then-image-at c = target-drawn _ _ _ c.requires.1 _ _ c.if-image-at.true c.u16_at-target.ensures c.note.ensures

pub returns-else-image-at : goal.returns-else-image-at
returns-else-image-at c = target_left _ _ _ c.requires.1 c.if-image-at.false
