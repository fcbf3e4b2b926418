-- `index::spans::Places::of`: the rules so far.
use Rattle.index.specs.Spans.{Spans}
use Rattle.index.proofs.spans.Places.of.Given as goal

abbrev pub invariant-loop-r : goal.invariant-loop-r
invariant-loop-r l = Spans l.image l.rules l.r l.places.low l.places.high
