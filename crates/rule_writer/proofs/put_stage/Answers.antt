use Rattle.derived.specs.RuleBytes.{stage-second, stage-wrote}
use Rattle.rule_writer.proofs.put_stage.Goals as goal

pub put_rule-requires : goal.put_rule-requires
put_rule-requires c = search stage-second

pub returns : goal.returns
returns c = search stage-wrote
