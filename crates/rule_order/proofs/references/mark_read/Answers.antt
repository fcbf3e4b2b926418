use Rattle.rule_order.specs.References.{text-read}
use Rattle.rule_order.proofs.references.mark_read.Goals as goal

pub returns-clause-witness : goal.returns-clause-witness
returns-clause-witness c = search text-read
