-- `rule_lines::effect_text` meets its contract: each effect has its word.
use Rattle.rule_lines.specs.Writers.{set-fits, set-wrote, clear-fits, clear-wrote}
use Rattle.rule_lines.proofs.effect_text.Goals as goal

pub named-requires : goal.named-requires
named-requires c = search set-fits

pub returns-then-effect : goal.returns-then-effect
returns-then-effect c = search set-wrote

pub named-requires-else-effect : goal.named-requires-else-effect
named-requires-else-effect c = search clear-fits

pub returns-else-effect : goal.returns-else-effect
returns-else-effect c = search clear-wrote
