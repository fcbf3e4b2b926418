use Rattle.std.proofs.Common.{rules}
use Rattle.loop_cuts.specs.Walking.{climb-none, climb-more, climb-less, climb-own, climb-older, climb-end}
use Rattle.loop_cuts.proofs.climb.Goals as goal

pub loop-c-init : goal.loop-c-init
loop-c-init c = search (rules, climb-none)

pub loop-c-smaller : goal.loop-c-smaller
loop-c-smaller c = search (rules, climb-less)

pub loop-c-preserved : goal.loop-c-preserved
loop-c-preserved c = search (rules, climb-more)

pub returns-then-stamps-c : goal.returns-then-stamps-c
returns-then-stamps-c c = search (rules, climb-own)

pub returns-then-stamps-c-ne0 : goal.returns-then-stamps-c-ne0
returns-then-stamps-c-ne0 c = search (rules, climb-older)

pub returns : goal.returns
returns c = search (rules, climb-end)
