use Rattle.std.proofs.Common.{arith}
use Rattle.ordering.proofs.Stepping.{looked-written, looked-ready, looked-passed}
use Rattle.ordering.proofs.scan.look.Goals as goal

pub returns-then-is_written-clause-looked : goal.returns-then-is_written-clause-looked
returns-then-is_written-clause-looked c = search looked-written

pub returns-in-Some-clause-looked : goal.returns-in-Some-clause-looked
returns-in-Some-clause-looked c =
    let w = c.in-Some.ensures.witness in
    looked-passed _ _ _ _ _ _ _ c.is_written.ensures c.if-is_written.false _ w.1 _ _ w.0 c.widen.ensures.low c.widen.ensures.high

pub returns-in-None-clause-looked : goal.returns-in-None-clause-looked
returns-in-None-clause-looked c = looked-ready _ _ _ _ _ _ _ c.is_written.ensures c.if-is_written.false _ c.in-None.ensures.witness (omega arith)
