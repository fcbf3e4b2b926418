-- No rule passed targets the mark and clashes.
use Rattle.book.specs.Image.{book_of}
use Rattle.clashes.proofs.Passes.{Scanned}
use Rattle.clashes.proofs.lowest_of.Given as goal

abbrev pub invariant-loop-p : goal.invariant-loop-p
invariant-loop-p l = Scanned (book_of l.image) l.m l.p
