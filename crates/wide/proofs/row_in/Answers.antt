use Rattle.wide.specs.Number.{number-row-in}
use Rattle.std.proofs.Common.{rules}
use Rattle.wide.proofs.row_in.Goals as goal

pub returns : goal.returns
returns c = search number-row-in
