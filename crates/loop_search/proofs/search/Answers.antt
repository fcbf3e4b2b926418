use Rattle.std.proofs.Common.{arith}
use Rattle.loop_search.proofs.Rounds.{searched-more, searched-some, searched-none}
use Rattle.loop_search.proofs.search.Goals as goal

pub returns-in-Some : goal.returns-in-Some
returns-in-Some c = searched-some _ _ _ _ c.loop-base.invariant _ c.in-Some.ensures.1 c.in-Some.ensures.0

pub loop-base-preserved : goal.loop-base-preserved
loop-base-preserved c = searched-more _ _ _ _ c.loop-base.invariant _ c.in_default.ensures (omega arith)

pub returns : goal.returns
returns c = searched-none _ _ _ _ c.loop-base.invariant (omega arith)

pub returns-in_default : goal.returns-in_default
returns-in_default c = searched-none _ _ _ _ (searched-more _ _ _ _ c.loop-base.invariant _ c.in_default.ensures (omega arith)) (omega arith)
