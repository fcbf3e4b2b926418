use Rattle.wide.specs.Number.{number}
use Rattle.loops.proofs.Stages.{Placed}
use Rattle.loops.proofs.searched_place.Given as goal

abbrev pub invariant-loop-stage : goal.invariant-loop-stage
invariant-loop-stage l = Placed l.image l.counts (number l.set) l.least l.stage
