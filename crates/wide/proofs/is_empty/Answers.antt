use Rattle.wide.specs.Number.{number-empty}
use Rattle.std.proofs.Common.{rules}
use Rattle.wide.proofs.is_empty.Goals as goal

pub returns : goal.returns
returns c = search number-empty
