-- `index::rising::last_targets`.
use Rattle.index.proofs.Ascending.{targeted-first, targeted-more, targeted-last}
use Rattle.index.proofs.rising.last_targets.Goals as goal

pub loop-r-init : goal.loop-r-init
loop-r-init c = targeted-first _

pub loop-r-preserved : goal.loop-r-preserved
loop-r-preserved c = search targeted-more

pub returns : goal.returns
returns c = search targeted-last
