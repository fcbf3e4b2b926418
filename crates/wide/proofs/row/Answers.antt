use mathlib.Core.Path.{sym, ◌∙◌}
use Rattle.std.proofs.Common.{arith}
use Rattle.wide.specs.Number.{row_at}
use Rattle.std.proofs.Common.{rules}
use Rattle.wide.proofs.row.Goals as goal

pub returns : goal.returns
returns c = c.row_in.ensures ∙ sym (row_at _ _ _ (omega arith))
