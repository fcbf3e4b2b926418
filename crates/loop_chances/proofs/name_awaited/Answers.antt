use Rattle.std.proofs.Common.{arith}
use Rattle.loop_chances.proofs.Sorting.{mark-awaited, none-awaited}
use Rattle.loop_chances.proofs.name_awaited.Goals as goal

pub returns-then-image-at-ge-TRIGGER_BECOME_YES : goal.returns-then-image-at-ge-TRIGGER_BECOME_YES
returns-then-image-at-ge-TRIGGER_BECOME_YES c = mark-awaited _ _ _ c.requires.1 2 _ _ (omega arith) c.if-image-at-ge-TRIGGER_BECOME_YES.true c.u16_at-mark.ensures c.note.ensures

pub returns-else-image-at-ge-TRIGGER_BECOME_YES : goal.returns-else-image-at-ge-TRIGGER_BECOME_YES
returns-else-image-at-ge-TRIGGER_BECOME_YES c = none-awaited _ _ _ c.requires.1 c.if-image-at-ge-TRIGGER_BECOME_YES.false
