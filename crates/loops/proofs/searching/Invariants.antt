use Rattle.wide.specs.Number.{number}
use Rattle.loops.proofs.Stages.{Gathered}
use Rattle.loops.proofs.searching.Given as goal

abbrev pub invariant-loop-r : goal.invariant-loop-r
invariant-loop-r l = Gathered l.image (number l.set) l.r
