use Rattle.rule_order.specs.Nets.{target-says}
use Rattle.unwritten.proofs.waiting.target_of.Goals as goal

pub returns : goal.returns
returns c = target-says _ c.requires.0 _ _ c.requires.1 c.u16_at.ensures
