-- `rule_lines::sense_text` meets its contract: each sense has its word.
use Rattle.rule_lines.specs.Writers.{sense-none, if-fits, if-wrote, unless-fits, unless-wrote}
use Rattle.rule_lines.proofs.sense_text.Goals as goal

pub named-requires : goal.named-requires
named-requires c = search if-fits

pub named-requires-in-Negated : goal.named-requires-in-Negated
named-requires-in-Negated c = search unless-fits

pub returns-in-NoCondition : goal.returns-in-NoCondition
returns-in-NoCondition c = search sense-none

pub returns-in-AsWritten : goal.returns-in-AsWritten
returns-in-AsWritten c = search if-wrote

pub returns-in-Negated : goal.returns-in-Negated
returns-in-Negated c = search unless-wrote
