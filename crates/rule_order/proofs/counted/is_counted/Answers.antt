use Rattle.std.proofs.Common.{arith}
use Rattle.rule_order.specs.Nets.{counts-other, counts-completed}
use Rattle.rule_order.proofs.counted.is_counted.Goals as goal

pub returns-then-image-at-ne-TRIGGER_COMPLETED : goal.returns-then-image-at-ne-TRIGGER_COMPLETED
returns-then-image-at-ne-TRIGGER_COMPLETED c = counts-other _ _ _ c.requires.1 (λ z. omega arith)

pub returns : goal.returns
returns c = search counts-completed
