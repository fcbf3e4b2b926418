-- `texts::references::note` meets its contract: an operator adds no mark.
use Rattle.texts.proofs.Naming.{none_added}
use Rattle.texts.proofs.references.note.Goals as goal

pub returns-else-mark-lt-MAX_MARKS : goal.returns-else-mark-lt-MAX_MARKS
returns-else-mark-lt-MAX_MARKS c = search none_added
