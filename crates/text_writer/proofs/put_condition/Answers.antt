use Rattle.derived.specs.RuleBytes.{condition-wrote}
use Rattle.text_writer.proofs.put_condition.Goals as goal

pub returns : goal.returns
returns c = search condition-wrote
