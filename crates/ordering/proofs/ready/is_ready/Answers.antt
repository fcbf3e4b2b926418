use Rattle.ordering.specs.Ready.{stand-written, stand-told}
use Rattle.ordering.proofs.ready.is_ready.Goals as goal

pub returns-then-is_written-clause-value : goal.returns-then-is_written-clause-value
returns-then-is_written-clause-value c = search stand-written

pub returns-clause-value : goal.returns-clause-value
returns-clause-value c = stand-told _ _ _ _ _ _ _ c.is_written.ensures c.if-is_written.false c.mark_referred.ensures.witness c.is_none.ensures
