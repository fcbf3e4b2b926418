-- `index_fit::pair_same`.
use Rattle.index_fit.proofs.Comparing.{pair_same}
use Rattle.index_fit.proofs.pair_same.Goals as goal

pub returns : goal.returns
returns c = pair_same _ (λ i. (c.type_inv.index i).fits) _ _ _ _ _ c.u32_at.ensures c.u32_at-2.ensures
