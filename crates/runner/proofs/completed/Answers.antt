-- `runner::completed`: a law for each return.
use Rattle.judge.proofs.Returns.{thrown}
use Rattle.runner.proofs.Orders.{order-stops, stage_below, entries-below, snapshot-judged}
use Rattle.runner.proofs.completed.Goals as goal

pub returns-in_err-counts-clause-answer : goal.returns-in_err-counts-clause-answer
returns-in_err-counts-clause-answer c = thrown _ _ c.from_residual.ensures.1 _ (order-stops _ _ _ _ _ c.in_err-counts.ensures.answer)

pub judge_snapshot-requires : goal.judge_snapshot-requires
judge_snapshot-requires c = stage_below _ _ c.args.snapshot.marks _ _ c.in_ok-counts.ensures.ordered

pub returns-in_err-judge_snapshot-clause-answer : goal.returns-in_err-judge_snapshot-clause-answer
returns-in_err-judge_snapshot-clause-answer c =
    thrown _ _ c.from_residual-in_err-judge_snapshot.ensures.1 _
    (snapshot-judged _ _ _ _ _ c.in_ok-counts.ensures.ordered c.in_ok-counts.ensures.answer _ c.in_err-judge_snapshot.ensures)

pub go_through-requires : goal.go_through-requires
go_through-requires c =
    let o = c.in_ok-counts.ensures.ordered in (
      record { formed = o.ordered.passes.formed; counts = o.counts },
      entries-below _ _ c.args.snapshot.marks _ _ o,
    )

pub returns-clause-answer : goal.returns-clause-answer
returns-clause-answer c =
    snapshot-judged _ _ _ _ _ c.in_ok-counts.ensures.ordered c.in_ok-counts.ensures.answer _ c.in_ok-judge_snapshot.ensures
