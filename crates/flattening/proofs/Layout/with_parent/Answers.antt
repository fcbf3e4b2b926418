use Rattle.flattening.specs.Rows.{with-some, with_none}
use Rattle.flattening.proofs.Layout.with_parent.Goals as goal

pub returns-then-p-self : goal.returns-then-p-self
returns-then-p-self c = with-some _ _ c.requires c.parent_of-p.ensures c.row_in-own.ensures c.if-p-self.true c.row_in.ensures c.join.ensures

pub returns : goal.returns
returns c = with_none _ _ c.requires c.parent_of-p.ensures c.row_in-own.ensures c.if-p-self.false
