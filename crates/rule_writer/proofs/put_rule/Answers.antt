use Rattle.derived.specs.RuleBytes.{rule-wrote}
use Rattle.rule_writer.proofs.put_rule.Goals as goal

pub returns : goal.returns
returns c = search rule-wrote
