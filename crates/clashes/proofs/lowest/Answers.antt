-- `clashes::lowest` meets its contract: a mark that is calm adds no rule that clashes, and of another the lowest is looked for.
use Rattle.clashes.proofs.Rules.{mark-fits, mark-sides, mark-calm, mark-more}
use Rattle.std.proofs.Common.{rules}
use Rattle.clashes.proofs.lowest.Goals as goal
use Rattle.clashes.proofs.lowest.Goals.{then-not-calm, else-not-calm}

pub lowest_of-found-requires : goal.lowest_of-found-requires
lowest_of-found-requires c = (search rules, search rules, search mark-fits, search mark-sides)

pub loop-i-preserved : goal.loop-i-preserved
loop-i-preserved c = elim c.if-not-calm.branch [ then-not-calm w ↦ search mark-more | else-not-calm w ↦ search mark-calm ]
