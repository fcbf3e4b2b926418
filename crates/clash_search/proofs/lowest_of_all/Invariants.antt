-- What was found is the lowest of the rounds passed.
use Rattle.std.proofs.Common.{◌-◌}
use Rattle.book.specs.Image.{book_of}
use Rattle.clashes.specs.Groups.{Found}
use Rattle.clash_search.proofs.lowest_of_all.Given as goal

abbrev pub invariant-loop-from : goal.invariant-loop-from
invariant-loop-from l = Found (book_of l.image) l.from l.low

abbrev pub decreases-loop-from : goal.decreases-loop-from
decreases-loop-from l = l.marks - l.from
