-- `index_fit::rule_same`.
use Rattle.index_fit.proofs.Comparing.{rule-same}
use Rattle.index_fit.proofs.rule_same.Goals as goal

pub returns : goal.returns
returns c = rule-same _ (λ i. (c.type_inv.index i).fits) _ _ _ c.u32_at.ensures
