-- `index::rising::last_named`: the words so far.
use Rattle.book.specs.Read.{words_from}
use Rattle.index.specs.Ascending.{Above}
use Rattle.index.proofs.rising.last_named.Given as goal

abbrev pub invariant-loop-i : goal.invariant-loop-i
invariant-loop-i l = Above l.last (words_from l.image l.at l.count) l.i l.most
