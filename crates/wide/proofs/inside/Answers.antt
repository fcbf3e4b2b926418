use Rattle.wide.specs.Number.{within_all, within-less, words}
use Rattle.std.proofs.Common.{rules}
use Rattle.wide.proofs.inside.Goals as goal

pub returns-then-n-ge-MAX_EVENTS : goal.returns-then-n-ge-MAX_EVENTS
returns-then-n-ge-MAX_EVENTS c = search (within_all, words, rules)

pub returns : goal.returns
returns c = search within-less
