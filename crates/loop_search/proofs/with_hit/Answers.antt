use Rattle.loop_search.proofs.Rounds.{hit-below, hit-above, hit-here}
use Rattle.loop_search.proofs.with_hit.Goals as goal
use Rattle.loop_search.proofs.with_hit.Goals.{then-t-base-via-then-t-base, then-t-base-via-else-t-base+then-t-base-ge64}

pub returns-then-t-base : goal.returns-then-t-base
returns-then-t-base c =
    elim c.then-t-base.branch [
      | then-t-base-via-then-t-base w ↦ hit-below _ _ _ _ _ _ _ c.target_of-t.ensures.0 w.if-t-base.true
      | then-t-base-via-else-t-base+then-t-base-ge64 w ↦ hit-above _ _ _ _ _ _ _ c.target_of-t.ensures.0 w.if-t-base.false w.if-t-base-ge64.true
    ]

pub returns : goal.returns
returns c = search hit-here
