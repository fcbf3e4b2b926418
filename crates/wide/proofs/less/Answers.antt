use Rattle.wide.specs.Number.{number-minus, words}
use Rattle.std.proofs.Common.{rules}
use Rattle.wide.proofs.less.Goals as goal

pub returns : goal.returns
returns c = search (number-minus, words, rules)
