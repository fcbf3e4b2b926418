use Rattle.derived.specs.RuleBytes.{clause-wrote}
use Rattle.text_writer.proofs.put_clause.Goals as goal

pub returns : goal.returns
returns c = clause-wrote _ _ _ _ _ _ c.put16.ensures c.put16-2.ensures c.put16-3.ensures c.put16-4.ensures c.put16-5.ensures
