use Rattle.senses.proofs.Bytes.{turn-completed, turn-none}
use Rattle.std.proofs.Common.{rules}
use Rattle.senses.proofs.turn_of.Goals as goal

pub returns-then-image-at-eq-TRIGGER_COMPLETED : goal.returns-then-image-at-eq-TRIGGER_COMPLETED
returns-then-image-at-eq-TRIGGER_COMPLETED c = turn-completed _ _ c.requires.0 c.requires.1 _ c.if-image-at-eq-TRIGGER_COMPLETED.true c.u16_at.ensures

pub returns : goal.returns
returns c = turn-none _ _ c.requires.0 c.requires.1 c.if-image-at-eq-TRIGGER_COMPLETED.false
