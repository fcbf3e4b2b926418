-- `index::spans::Places::of`.
use Rattle.std.proofs.Common.{arith}
use Rattle.index.specs.Spans.{spans-first, spans-more, spans-last}
use Rattle.index.proofs.spans.Places.of.Goals as goal

pub loop-r-init : goal.loop-r-init
loop-r-init c = spans-first _ _ c.requires.0 c.requires.1

pub loop-r-preserved : goal.loop-r-preserved
loop-r-preserved c = spans-more _ _ c.requires.0 c.requires.1 _ _ _ c.loop-r.invariant c.loop-r-test.true _ _ c.place_of-p.ensures.0 c.place_of-p.ensures.1 (omega arith) (omega arith)

pub returns : goal.returns
returns c = search spans-last
