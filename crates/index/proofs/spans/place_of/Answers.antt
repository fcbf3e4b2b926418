-- `index::spans::place_of`.
use Rattle.index.specs.Spans.{place_other, place-completed}
use Rattle.index.proofs.spans.place_of.Goals as goal

pub returns-then-image-at-ne-TRIGGER_COMPLETED : goal.returns-then-image-at-ne-TRIGGER_COMPLETED
returns-then-image-at-ne-TRIGGER_COMPLETED c = place_other _ c.requires.0 _ c.requires.1 c.if-image-at-ne-TRIGGER_COMPLETED.true

pub returns : goal.returns
returns c = place-completed _ c.requires.0 _ c.requires.1 _ c.if-image-at-ne-TRIGGER_COMPLETED.false c.u16_at.ensures
