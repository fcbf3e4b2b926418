-- What was found is the lowest of the marks passed.
use Rattle.std.proofs.Common.{◌+◌}
use Rattle.book.specs.Image.{book_of}
use Rattle.clashes.specs.Groups.{Found}
use Rattle.clashes.proofs.lowest.Given as goal

abbrev pub invariant-loop-i : goal.invariant-loop-i
invariant-loop-i l = Found (book_of l.image) (l.from + l.i) l.found
