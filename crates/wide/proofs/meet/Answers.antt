use Rattle.wide.specs.Number.{number-inter, words}
use Rattle.std.proofs.Common.{rules}
use Rattle.wide.proofs.meet.Goals as goal

pub returns : goal.returns
returns c = search (number-inter, words, rules)
