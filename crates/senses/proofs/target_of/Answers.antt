use Rattle.senses.proofs.Bytes.{target-read}
use Rattle.std.proofs.Common.{rules}
use Rattle.senses.proofs.target_of.Goals as goal

pub returns : goal.returns
returns c = target-read _ _ c.requires.0 c.requires.1 _ c.u16_at.ensures
