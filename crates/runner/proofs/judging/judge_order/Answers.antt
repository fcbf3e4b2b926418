-- `runner::judging::judge_order`: a law for each return.
use Rattle.judge.proofs.Returns.{thrown}
use Rattle.runner.proofs.Orders.{book-stops, order-nowhere, order-unfit, order-fit, ordered-with}
use Rattle.runner.proofs.judging.judge_order.Goals as goal

pub returns-in_err-counts-clause-answer : goal.returns-in_err-counts-clause-answer
returns-in_err-counts-clause-answer c = thrown _ _ c.from_residual.ensures.1 _ (book-stops _ _ _ _ c.in_err-counts.ensures.answer)

pub returns-then-counts-stage-clause-answer : goal.returns-then-counts-stage-clause-answer
returns-then-counts-stage-clause-answer c = order-nowhere _ _ _ _ c.in_ok-counts.ensures.passes c.if-counts-stage.true

pub returns-then-not-order_fits-clause-answer : goal.returns-then-not-order_fits-clause-answer
returns-then-not-order_fits-clause-answer c =
    order-unfit _ _ _ _ c.in_ok-counts.ensures.passes c.if-counts-stage.false _ c.order_fits.ensures c.if-not-order_fits.true

pub returns-clause-answer : goal.returns-clause-answer
returns-clause-answer c =
    order-fit _ _ _ _ c.in_ok-counts.ensures.passes c.if-counts-stage.false _ c.order_fits.ensures c.if-not-order_fits.false

pub returns-clause-ordered : goal.returns-clause-ordered
returns-clause-ordered c =
    ordered-with _ _ _ _ c.in_ok-counts.ensures.passes c.if-counts-stage.false _ c.order_fits.ensures c.if-not-order_fits.false
