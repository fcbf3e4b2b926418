use Rattle.nesting.specs.Ahead.{Returning}
use Rattle.nesting.proofs.returns.Given as goal

abbrev pub invariant-loop-passed : goal.invariant-loop-passed
invariant-loop-passed l = Returning l.image.bytes.now l.image.nodes l.a l.c l.passed
