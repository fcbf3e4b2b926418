use Rattle.wide.specs.Number.{number-all}
use Rattle.std.proofs.Common.{rules}
use Rattle.wide.proofs.all_below.Goals as goal

pub returns : goal.returns
returns c = search (number-all, rules)
