-- The words hold what the rules passed are summed up by.
use Rattle.book.specs.Image.{book_of}
use Rattle.clashes.specs.Groups.{Summed}
use Rattle.clashes.proofs.sum_up.Given as goal

abbrev pub invariant-loop-r : goal.invariant-loop-r
invariant-loop-r l = Summed (book_of l.image) l.from l.n l.r l.work
