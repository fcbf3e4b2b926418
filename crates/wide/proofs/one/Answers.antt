use Rattle.wide.specs.Number.{one-0, one-1, one-2, one-3}
use Rattle.std.proofs.Common.{rules}
use Rattle.wide.proofs.one.Goals as goal

pub returns-in-0 : goal.returns-in-0
returns-in-0 c = search (one-0, rules)

pub returns-in-1 : goal.returns-in-1
returns-in-1 c = search (one-1, rules)

pub returns-in-2 : goal.returns-in-2
returns-in-2 c = search (one-2, rules)

pub returns-in_default : goal.returns-in_default
returns-in_default c = search (one-3, rules)
