-- `clashes::add` meets its contract: the row and the senses are stored apart from those of others.
use Rattle.clashes.proofs.Passes.{added}
use Rattle.clashes.proofs.add.Goals as goal

pub returns : goal.returns
returns c = search added
