use Rattle.std.proofs.Common.{arith}
use Rattle.loop_chances.proofs.Sorting.{sorting-first, sorting-more, sorting-last}
use Rattle.loop_chances.proofs.sort_rules.Goals as goal

pub loop-r-init : goal.loop-r-init
loop-r-init c = search sorting-first

pub loop-r-preserved : goal.loop-r-preserved
loop-r-preserved c = search sorting-more

pub returns : goal.returns
returns c = sorting-last _ _ _ _ _ c.loop-r.invariant (omega arith)
