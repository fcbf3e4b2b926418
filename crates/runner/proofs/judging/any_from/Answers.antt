-- `runner::judging::any_from`.
use Rattle.std.proofs.Common.{arith}
use Rattle.runner.specs.Ordered.{scanned-found, scanned-more, scanned-none}
use Rattle.runner.proofs.judging.any_from.Goals as goal

pub loop-x-init : goal.loop-x-init
loop-x-init c = record { least = omega arith; none = λ y h k. absurd (omega arith) }

pub returns-then-marks-x : goal.returns-then-marks-x
returns-then-marks-x c = scanned-found _ _ _ c.loop-x.invariant c.loop-x-test.true c.if-marks-x.true

pub loop-x-preserved : goal.loop-x-preserved
loop-x-preserved c = scanned-more _ _ _ c.loop-x.invariant c.if-marks-x.false

pub returns : goal.returns
returns c = scanned-none _ _ _ c.loop-x.invariant c.loop-x-test.false
