use Rattle.flattening.specs.Rows.{length-rows, take_past}
use Rattle.flattening.proofs.hand.Goals as goal

pub returns-else-p-n : goal.returns-else-p-n
returns-else-p-n c = take_past _ _ (length-rows _ _) c.if-p-n.false
