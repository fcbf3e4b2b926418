use Rattle.std.proofs.Common.{rules}
use Rattle.nesting.specs.Climbing.{stamps-none, walk-stopped, walk_more, walk_end}
use Rattle.nesting.proofs.all_free.Goals as goal

pub loop-start-init : goal.loop-start-init
loop-start-init c = stamps-none _ _ _ c.args.image.whole

pub loop-start-preserved : goal.loop-start-preserved
loop-start-preserved c = search (rules, walk_more)

pub returns-then-not-climb : goal.returns-then-not-climb
returns-then-not-climb c = search (rules, walk-stopped)

pub returns : goal.returns
returns c = search (rules, walk_end)
