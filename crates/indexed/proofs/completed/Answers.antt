-- `indexed::completed`: a law for each return.
use Rattle.judge.proofs.Returns.{thrown}
use Rattle.indexed.proofs.Returns.{index-stops, stages-few, walk-asks, known-stage, marks-judged}
use Rattle.indexed.proofs.completed.Goals as goal

pub returns-in_err-counts-clause-answer : goal.returns-in_err-counts-clause-answer
returns-in_err-counts-clause-answer c = thrown _ _ c.from_residual.ensures.1 _ (index-stops _ _ _ _ _ c.in_err-counts.ensures.answer)

pub judge_marks-requires : goal.judge_marks-requires
judge_marks-requires c = stages-few _ _ _ c.in_ok-counts.ensures.indexed

pub returns-in_err-judge_marks-clause-answer : goal.returns-in_err-judge_marks-clause-answer
returns-in_err-judge_marks-clause-answer c =
    thrown _ _ c.from_residual-in_err-judge_marks.ensures.1 _
    (marks-judged _ _ _ c.in_ok-counts.ensures.indexed _ _ c.in_ok-counts.ensures.answer _ c.in_err-judge_marks.ensures)

pub go_through_index-turned-requires : goal.go_through_index-turned-requires
go_through_index-turned-requires c =
    let p = c.in_ok-counts.ensures.indexed in
    walk-asks _ _ _ p _ (known-stage _ _ _ p _ _ (c.in_ok-judge_marks.ensures _ p.book.counts))

pub returns-clause-answer : goal.returns-clause-answer
returns-clause-answer c = marks-judged _ _ _ c.in_ok-counts.ensures.indexed _ _ c.in_ok-counts.ensures.answer _ c.in_ok-judge_marks.ensures
