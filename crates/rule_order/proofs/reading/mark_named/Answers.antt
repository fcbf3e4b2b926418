use Rattle.rule_order.proofs.Passing.{text-inside, freed-within, freed-on, named_none, named-inside, named-one}
use Rattle.rule_order.proofs.reading.mark_named.Goals as goal

pub read_on-to-requires : goal.read_on-to-requires
read_on-to-requires c = (search text-inside, search freed-within)

pub returns-then-to-count-clause-witness : goal.returns-then-to-count-clause-witness
returns-then-to-count-clause-witness c = search named_none

pub returns-then-to-count-clause-freed : goal.returns-then-to-count-clause-freed
returns-then-to-count-clause-freed c = search freed-on

pub u16_at-requires : goal.u16_at-requires
u16_at-requires c = search named-inside

pub returns-clause-witness : goal.returns-clause-witness
returns-clause-witness c = search named-one

pub returns-clause-freed : goal.returns-clause-freed
returns-clause-freed c = search freed-on
