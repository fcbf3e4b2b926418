-- `index::write::put_pair`.
use Rattle.index.proofs.Writing.{pair-wrote}
use Rattle.index.proofs.write.put_pair.Goals as goal

pub returns : goal.returns
returns c = search pair-wrote
