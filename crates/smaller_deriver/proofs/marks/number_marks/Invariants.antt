use Rattle.wide.specs.Number.{number}
use Rattle.smaller_deriver.specs.Marks.{Passed}
use Rattle.smaller_deriver.proofs.marks.number_marks.Given as goal

abbrev pub invariant-loop-e : goal.invariant-loop-e
invariant-loop-e l = Passed l.fn.table l.at (number l.set) l.next l.e l.free l.table
