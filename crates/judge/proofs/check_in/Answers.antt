-- `judge::check_in`: a law for each return.
use Rattle.std.proofs.Common.{arith, []}
use Rattle.paper.specs.declared.Refusal.TheVariants.{NoSuchStage}
use Rattle.rule_order.specs.Nets.{few-counted}
use Rattle.judge.proofs.Returns.{thrown_on, book-stops, untouched, check-nowhere, orders, check-room, check-granted, room-kept, room-ordered}
use Rattle.judge.proofs.check_in.Goals as goal

pub returns-in_err-counts-clause-answer : goal.returns-in_err-counts-clause-answer
returns-in_err-counts-clause-answer c = thrown_on _ _ c.from_residual.ensures.1 _ (book-stops _ _ _ _ c.in_err-counts.ensures.answer)

pub returns-in_err-counts-clause-room : goal.returns-in_err-counts-clause-room
returns-in_err-counts-clause-room c = untouched _ _ _ _ (book-stops _ _ _ _ c.in_err-counts.ensures.answer)

pub returns-then-counts-stage-clause-answer : goal.returns-then-counts-stage-clause-answer
returns-then-counts-stage-clause-answer c = check-nowhere _ _ _ _ c.in_ok-counts.ensures.passes c.if-counts-stage.true

pub returns-then-counts-stage-clause-room : goal.returns-then-counts-stage-clause-room
returns-then-counts-stage-clause-room c = untouched _ _ _ NoSuchStage (check-nowhere _ _ _ _ c.in_ok-counts.ensures.passes c.if-counts-stage.true)

pub running_order-counted-requires : goal.running_order-counted-requires
running_order-counted-requires c = orders _ _ [] _ c.in_ok-counts.ensures.passes c.if-counts-stage.false

pub overflow_cast-result : goal.overflow_cast-result
overflow_cast-result c =
    let k = c.in_ok-counts.ensures.passes.passes.formed.headed.counted.rules in
    omega (arith, few-counted c.args.book.now c.args.stage, c.running_order-counted.ensures.0)

pub returns-then-room-counted-clause-answer : goal.returns-then-room-counted-clause-answer
returns-then-room-counted-clause-answer c =
    check-room _ _ _ _ c.in_ok-counts.ensures.passes c.if-counts-stage.false _ c.running_order-counted.ensures.0 (omega arith)

pub returns-then-room-counted-clause-room : goal.returns-then-room-counted-clause-room
returns-then-room-counted-clause-room c =
    room-kept _ _ _ _ c.in_ok-counts.ensures.passes c.if-counts-stage.false _ c.running_order-counted.ensures.0 _ c.running_order-counted.ensures.1
    (omega arith)

pub returns-clause-answer : goal.returns-clause-answer
returns-clause-answer c =
    check-granted _ _ _ _ c.in_ok-counts.ensures.passes c.if-counts-stage.false _ c.running_order-counted.ensures.0 (omega arith)

pub returns-clause-room : goal.returns-clause-room
returns-clause-room c =
    room-ordered _ _ _ _ c.in_ok-counts.ensures.passes c.if-counts-stage.false _ c.running_order-counted.ensures.0 _ c.running_order-counted.ensures.1
    (omega arith)
