-- `indexed::complete`: granted, and refused.
use Rattle.indexed.proofs.Returns.{refused-so, completed-so}
use Rattle.indexed.proofs.complete.Goals as goal

pub returns-in-Ok : goal.returns-in-Ok
returns-in-Ok c = rw c.granted.ensures (completed-so _ _ _ _ c.in-Ok.ensures.answer _ _ c.in-Ok.ensures.after c.in-Ok.ensures.evaluated)

pub returns-in-Err : goal.returns-in-Err
returns-in-Err c = rw c.from.ensures (refused-so _ _ _ _ _ c.in-Err.ensures.answer)
