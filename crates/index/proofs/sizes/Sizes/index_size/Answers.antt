-- `index::sizes::Sizes::index_size`.
use Rattle.std.proofs.Common.{arith}
use Rattle.index.specs.Sizes.{summed-first, summed-more, summed-last}
use Rattle.index.proofs.sizes.Sizes.index_size.Goals as goal

pub loop-stage-init : goal.loop-stage-init
loop-stage-init c = summed-first _ _ _

pub overflow_add-sum : goal.overflow_add-sum
overflow_add-sum c = let l = c.requires.few in omega (arith, c.requires.each _ c.loop-stage-test.true)

pub loop-stage-preserved : goal.loop-stage-preserved
loop-stage-preserved c = search summed-more

pub returns : goal.returns
returns c = search summed-last
