-- `runner::judging::any_from`: no mark is yes so far.
use Rattle.runner.specs.Ordered.{Scanned}
use Rattle.runner.proofs.judging.any_from.Given as goal

abbrev pub invariant-loop-x : goal.invariant-loop-x
invariant-loop-x l = Scanned l.marks l.m l.x
