-- `index::write::put_span`: the rules so far.
use Rattle.index.proofs.Listing.{Listing}
use Rattle.index.proofs.write.put_span.Given as goal

abbrev pub invariant-loop-r : goal.invariant-loop-r
invariant-loop-r l = Listing l.image l.stage l.from l.to l.fn.room l.at l.r l.next l.room
