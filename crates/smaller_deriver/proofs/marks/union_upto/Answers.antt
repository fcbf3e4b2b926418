use Rattle.smaller.specs.Kept.{union_upto}
use Rattle.smaller_deriver.specs.Marks.{union_more}
use Rattle.smaller_deriver.proofs.marks.union_upto.Goals as goal

pub loop-e-init : goal.loop-e-init
unfolding union_upto
loop-e-init c = c.empty-all.ensures

pub loop-e-preserved : goal.loop-e-preserved
loop-e-preserved c = union_more _ _ c.loop-e.invariant c.row.ensures c.join-all.ensures
