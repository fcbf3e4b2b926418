use Rattle.loop_chances.proofs.Sorting.{sorts-say}
use Rattle.loop_chances.proofs.may_loop.Goals as goal

pub returns : goal.returns
returns c = search sorts-say
