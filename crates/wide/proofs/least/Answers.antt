use Rattle.wide.specs.Number.{least-0, least-1, least-2, least-3}
use Rattle.std.proofs.Common.{rules}
use Rattle.wide.proofs.least.Goals as goal

pub returns-then-s-ne0 : goal.returns-then-s-ne0
returns-then-s-ne0 c = search (least-0, rules)

pub returns-then-s-ne0-2 : goal.returns-then-s-ne0-2
returns-then-s-ne0-2 c = search (least-1, rules)

pub returns-then-s-ne0-3 : goal.returns-then-s-ne0-3
returns-then-s-ne0-3 c = search (least-2, rules)

pub returns : goal.returns
returns c = search (least-3, rules)
