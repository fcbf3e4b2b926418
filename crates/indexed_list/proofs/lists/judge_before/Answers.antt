-- `indexed_list::lists::judge_before`: a law for each return.
use Rattle.judge.proofs.Returns.{thrown}
use Rattle.indexed_list.proofs.Listed.{index-stops, before_above, before-long, before-granted}
use Rattle.indexed_list.proofs.lists.judge_before.Goals as goal

pub returns-in_err-counts-clause-answer : goal.returns-in_err-counts-clause-answer
returns-in_err-counts-clause-answer c = thrown _ _ c.from_residual.ensures.1 _ (index-stops _ _ _ _ _ c.in_err-counts.ensures.answer)

pub returns-then-any_from-clause-answer : goal.returns-then-any_from-clause-answer
returns-then-any_from-clause-answer c =
    before_above _ _ _ _ c.in_ok-counts.ensures.answer _ c.in_ok-counts.ensures.indexed _ c.any_from.ensures c.if-any_from.true

pub returns-then-many-gt-MAX_LIST-clause-answer : goal.returns-then-many-gt-MAX_LIST-clause-answer
returns-then-many-gt-MAX_LIST-clause-answer c =
    before-long _ _ _ _ c.in_ok-counts.ensures.answer _ c.in_ok-counts.ensures.indexed _ c.any_from.ensures c.if-any_from.false c.if-many-gt-MAX_LIST.true _ c.place_of.ensures

pub returns-clause-answer : goal.returns-clause-answer
returns-clause-answer c =
    before-granted _ _ _ _ c.in_ok-counts.ensures.answer _ c.in_ok-counts.ensures.indexed _ c.any_from.ensures c.if-any_from.false c.if-many-gt-MAX_LIST.false
