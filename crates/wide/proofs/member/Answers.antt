use Rattle.wide.specs.Number.{number-has, words}
use Rattle.std.proofs.Common.{rules}
use Rattle.wide.proofs.member.Goals as goal

pub returns : goal.returns
returns c = search (number-has, words, rules)
