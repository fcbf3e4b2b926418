use Rattle.std.proofs.Common.{sym}
use Rattle.sets.specs.Laws.{test_bit, above}
use Rattle.sets.proofs.member.Goals as goal

pub returns-then-e-lt64 : goal.returns-then-e-lt64
returns-then-e-lt64 c = test_bit c.args.s c.args.e

pub returns-else-e-lt64 : goal.returns-else-e-lt64
returns-else-e-lt64 c = sym (above 64 c.args.s c.args.e c.ranges.s.fits c.if-e-lt64.false)
