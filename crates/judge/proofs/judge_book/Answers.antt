-- `judge::judge_book`: a law for each return.
use Rattle.judge.proofs.Returns.{thrown, head-stops, image-refused, book-judged, book-opened, passing}
use Rattle.judge.proofs.judge_book.Goals as goal

pub returns-in_err-counts-clause-answer : goal.returns-in_err-counts-clause-answer
returns-in_err-counts-clause-answer c = thrown _ _ c.from_residual.ensures.1 _ (head-stops _ _ c.in_err-counts.ensures.answer)

pub returns-in_err-judge_body-clause-answer : goal.returns-in_err-judge_body-clause-answer
returns-in_err-judge_body-clause-answer c = thrown _ _ c.from_residual-in_err-judge_body.ensures.1 _ (image-refused _ _ c.in_err-judge_body.ensures.answer)

pub judge_rules-requires : goal.judge_rules-requires
judge_rules-requires c = (book-opened _ c.in_ok-judge_body.ensures.answer _ c.in_ok-counts.ensures.begun, c.in_ok-judge_body.ensures.named)

pub returns-in_err-judge_rules-clause-answer : goal.returns-in_err-judge_rules-clause-answer
returns-in_err-judge_rules-clause-answer c =
    thrown _ _ c.from_residual-in_err-judge_rules.ensures.1 _ (book-judged _ c.in_ok-judge_body.ensures.answer _ c.in_err-judge_rules.ensures)

pub returns-clause-answer : goal.returns-clause-answer
returns-clause-answer c = book-judged _ c.in_ok-judge_body.ensures.answer _ c.in_ok-judge_rules.ensures

pub returns-clause-passes : goal.returns-clause-passes
returns-clause-passes c =
    passing _ _ c.in_ok-counts.ensures.begun (book-judged _ c.in_ok-judge_body.ensures.answer _ c.in_ok-judge_rules.ensures)
