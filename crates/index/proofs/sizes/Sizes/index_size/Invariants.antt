-- `index::sizes::Sizes::index_size`: the stages so far.
use Rattle.index.specs.Sizes.{Summed}
use Rattle.index.proofs.sizes.Sizes.index_size.Given as goal

abbrev pub invariant-loop-stage : goal.invariant-loop-stage
invariant-loop-stage l = Summed l.stages l.self.stages l.self.common l.sum l.stage
