use Rattle.std.proofs.Common.{arith}
use Rattle.loop_search.proofs.Rounds.{hitting-first, hitting-more, hitting-past, hitting-last}
use Rattle.loop_search.proofs.hits_of.Goals as goal
use Rattle.loop_search.proofs.hits_of.Goals.{then-is_counted, else-is_counted}

pub loop-r-init : goal.loop-r-init
loop-r-init c = hitting-first _ _ _ _ _ _ c.requires.0 c.requires.1

pub loop-r-preserved : goal.loop-r-preserved
loop-r-preserved c = elim c.if-is_counted.branch [ then-is_counted w ↦ search hitting-more | else-is_counted w ↦ search hitting-past ]

pub returns : goal.returns
returns c = hitting-last _ _ _ _ _ _ _ _ c.loop-r.invariant (omega arith)
