use Rattle.derived.specs.RuleBytes.{on-wrote}
use Rattle.rule_writer.proofs.put_on.Goals as goal

pub returns : goal.returns
returns c = search on-wrote
