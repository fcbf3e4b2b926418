use Rattle.wide.specs.Number.{number_size, words}
use Rattle.std.proofs.Common.{rules}
use Rattle.wide.proofs.count.Goals as goal

pub returns : goal.returns
returns c = search (number_size, words, rules)
