-- `runner::complete`: granted, and refused.
use Rattle.runner.proofs.Orders.{refused-so, completed-so}
use Rattle.runner.proofs.complete.Goals as goal

pub returns-in-Ok : goal.returns-in-Ok
returns-in-Ok c = rw c.granted.ensures (completed-so _ _ _ _ c.in-Ok.ensures.answer _ c.in-Ok.ensures.after)

pub returns-in-Err : goal.returns-in-Err
returns-in-Err c = rw c.from.ensures (refused-so _ _ _ _ _ c.in-Err.ensures.answer)
