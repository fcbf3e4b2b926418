use Rattle.senses.proofs.Bytes.{effect-read}
use Rattle.std.proofs.Common.{rules}
use Rattle.senses.proofs.sets_it.Goals as goal

pub returns : goal.returns
returns c = search effect-read
