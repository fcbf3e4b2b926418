use Rattle.std.proofs.Common.{◌≡◌, ◌+◌, arith}
use Rattle.wire.specs.Wire.{u16_at, u32_at}
use Rattle.wire.proofs.u32_at.Goals as goal

pub returns : goal.returns
unfolding u16_at u32_at
returns c = let e : c.args.at + 2 + 1 ≡ c.args.at + 3 = omega arith in rw e (omega (arith, c.from_le_bytes.ensures))
