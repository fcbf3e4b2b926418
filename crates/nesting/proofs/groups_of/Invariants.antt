use Rattle.nesting.specs.Tables.{Marks}
use Rattle.nesting.proofs.groups_of.Given as goal

abbrev pub invariant-loop-a : goal.invariant-loop-a
invariant-loop-a l = Marks l.image.bytes.now l.image.nodes l.a l.groups
