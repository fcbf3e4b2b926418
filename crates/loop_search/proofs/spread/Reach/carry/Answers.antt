use Rattle.loop_search.proofs.Carrying.{carried_none, carried-more}
use Rattle.loop_search.proofs.spread.Reach.carry.Goals as goal

pub returns-then-less-eq0-clause-carried : goal.returns-then-less-eq0-clause-carried
returns-then-less-eq0-clause-carried c = carried_none _ _ _ _ _ _ _ c.from_rule-from.ensures c.target_of-t.ensures.0 c.less.ensures c.if-less-eq0.true

pub returns-clause-carried : goal.returns-clause-carried
returns-clause-carried c = carried-more _ _ _ _ _ _ _ c.from_rule-from.ensures c.target_of-t.ensures.0 c.less.ensures _ c.if-less-eq0.false c.join.ensures
