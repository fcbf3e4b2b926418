use Rattle.wide.specs.Number.{number-union, words}
use Rattle.std.proofs.Common.{rules}
use Rattle.wide.proofs.join.Goals as goal

pub returns : goal.returns
returns c = search (number-union, words, rules)
