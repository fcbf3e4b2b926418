-- `writing::text` meets its contract: what is copied into a part of the room stands there, and nothing else was changed.
use Rattle.std.proofs.Common.{arith}
use Rattle.writing.specs.Writers.{copied}
use Rattle.writing.proofs.text.Goals as goal

pub returns : goal.returns
returns c = copied _ _ _ _ _ c.requires (omega arith) c.copy_from_slice.ensures.after
