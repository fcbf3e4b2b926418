use Rattle.std.proofs.Common.{◌≡◌}
use Rattle.wide.specs.Number.{number}
use Rattle.flattening.specs.Rows.{flagged_by}
use Rattle.flattening.proofs.flagged.Given as goal

abbrev pub invariant-loop-e : goal.invariant-loop-e
invariant-loop-e l = number l.set ≡ flagged_by l.image l.nodes l.digit l.e
