use Rattle.unwritten.proofs.Flags.{onward-over, onward-next}
use Rattle.unwritten.proofs.written.onward.Goals as goal

pub returns-then-left-eq0 : goal.returns-then-left-eq0
returns-then-left-eq0 c = search onward-over

pub returns : goal.returns
returns c = search onward-next
