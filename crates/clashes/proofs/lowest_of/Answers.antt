-- `clashes::lowest_of` meets its contract: the first rule that clashes ends the search, and else there is none below `low`.
use Rattle.clashes.proofs.Passes.{scan-found, scan-end}
use Rattle.clashes.proofs.lowest_of.Goals as goal

pub returns-then-clashes_in : goal.returns-then-clashes_in
returns-then-clashes_in c = scan-found _ _ _ c.loop-p.invariant _ _ c.clashes_in.ensures c.if-clashes_in.true c.loop-p-test.true

pub returns : goal.returns
returns c = scan-end _ _ _ c.loop-p.invariant _ c.loop-p-test.false
