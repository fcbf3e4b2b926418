use Rattle.std.proofs.Common.{rules}
use Rattle.loop_chances.proofs.Sorting.{meet-word}
use Rattle.loop_chances.proofs.words_meet.Goals as goal

pub returns : goal.returns
returns c = meet-word _ _ _ (search rules)
