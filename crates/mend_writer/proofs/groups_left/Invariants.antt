use Rattle.mend_writer.specs.Groups.{LeftMarks}
use Rattle.mend_writer.proofs.groups_left.Given as goal

abbrev pub invariant-loop-a : goal.invariant-loop-a
invariant-loop-a l = LeftMarks l.image.bytes.now l.image.nodes l.a l.groups
