use Rattle.rule_order.specs.References.{awaits-none, awaited-in, awaits-mark, awaits-other}
use Rattle.rule_order.proofs.references.mark_awaited.Goals as goal

pub returns-then-image-at-lt-TRIGGER_BECOME_YES : goal.returns-then-image-at-lt-TRIGGER_BECOME_YES
returns-then-image-at-lt-TRIGGER_BECOME_YES c = search awaits-none

pub returns-then-member : goal.returns-then-member
returns-then-member c = (search awaited-in, search awaits-mark)

pub returns : goal.returns
returns c = search awaits-other
