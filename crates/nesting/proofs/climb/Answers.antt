use Rattle.std.proofs.Common.{rules}
use Rattle.nesting.specs.Climbing.{climb-none, climb-more, climb-less, climb-met, climb-end}
use Rattle.nesting.proofs.climb.Goals as goal

pub loop-c-init : goal.loop-c-init
loop-c-init c = search (rules, climb-none)

pub loop-c-smaller : goal.loop-c-smaller
loop-c-smaller c = search (rules, climb-less)

pub loop-c-preserved : goal.loop-c-preserved
loop-c-preserved c = search (rules, climb-more)

pub returns-then-stamps-c-ne0 : goal.returns-then-stamps-c-ne0
returns-then-stamps-c-ne0 c = search (rules, climb-met)

pub returns : goal.returns
returns c = search (rules, climb-end)
