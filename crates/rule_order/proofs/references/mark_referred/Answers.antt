use Rattle.rule_order.specs.References.{referred-first, referred-then}
use Rattle.rule_order.proofs.references.mark_referred.Goals as goal

pub returns-in-Some-clause-witness : goal.returns-in-Some-clause-witness
returns-in-Some-clause-witness c = referred-first _ _ _ _ c.in-Some.ensures

pub returns-in-None-clause-witness : goal.returns-in-None-clause-witness
returns-in-None-clause-witness c = referred-then _ _ _ _ c.in-None.ensures c.mark_read.ensures.witness
