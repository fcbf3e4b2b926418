-- `indexed::judging::judge_marks`: a law for each return.
use Rattle.indexed.proofs.Returns.{marks-above, marks-belong}
use Rattle.indexed.proofs.judging.judge_marks.Goals as goal

pub returns-then-any_from : goal.returns-then-any_from
returns-then-any_from c s e = marks-above s _ _ _ e _ c.any_from.ensures c.if-any_from.true

pub returns : goal.returns
returns c s e = marks-belong s _ _ _ e _ c.any_from.ensures _ c.if-any_from.false c.judge_open.ensures
