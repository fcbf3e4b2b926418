-- `index::sizes::Sizes::of`: the rules so far.
use Rattle.index.specs.Sizes.{Tabled}
use Rattle.index.proofs.sizes.Sizes.of.Given as goal

abbrev pub invariant-loop-r : goal.invariant-loop-r
invariant-loop-r l = Tabled l.image l.sizes.stages l.sizes.common l.r
