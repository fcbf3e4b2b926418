use Rattle.mend_writer.specs.Bytes.{change-wrote}
use Rattle.mend_writer.proofs.Change.put.Goals as goal

pub returns : goal.returns
returns c = change-wrote _ _ _ _ _ _ (rw c.number.ensures at c.put16.ensures) c.put16-2.ensures c.put16-3.ensures c.put16-4.ensures c.put16-5.ensures
