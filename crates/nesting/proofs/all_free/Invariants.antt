use Rattle.nesting.specs.Climbing.{Stamps}
use Rattle.nesting.proofs.all_free.Given as goal

abbrev pub invariant-loop-start : goal.invariant-loop-start
invariant-loop-start l = Stamps l.image.bytes.now l.image.nodes l.start l.stamps
