-- No pair passed clashes, and so none is noted.
use Rattle.std.proofs.Common.{◌≡◌}
use Rattle.book.specs.Image.{book_of}
use Rattle.clash_search.proofs.Searching.{Searched, Seeking}
use Rattle.clash_search.proofs.search.Given as goal

abbrev pub invariant-loop-q : goal.invariant-loop-q
invariant-loop-q l = Seeking (book_of l.image) l.rules l.p l.q × (l.pair.first ≡ l.rules) × (l.pair.second ≡ l.rules)

abbrev pub invariant-search : goal.invariant-search
invariant-search l = Searched (book_of l.image) l.rules l.p × (l.pair.first ≡ l.rules) × (l.pair.second ≡ l.rules)
