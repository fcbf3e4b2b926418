use Rattle.std.proofs.Common.{rules}
use Rattle.nesting.specs.Ahead.{returning-start, returning-home, returning-off, returning-more}
use Rattle.nesting.proofs.returns.Goals as goal

pub loop-passed-init : goal.loop-passed-init
loop-passed-init c = search (rules, returning-start)

pub loop-passed-preserved : goal.loop-passed-preserved
loop-passed-preserved c = search (rules, returning-more)

pub returns-then-c-a : goal.returns-then-c-a
returns-then-c-a c = search (rules, returning-home)

pub returns-then-image-c : goal.returns-then-image-c
returns-then-image-c c = search (rules, returning-off)
