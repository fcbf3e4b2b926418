use mathlib.Core.Path.{refl}
use Rattle.senses.specs.Senses.{meets}
use Rattle.std.proofs.Common.{rules}
use Rattle.senses.proofs.meets.Goals as goal

pub returns : goal.returns
returns c = unfold meets in refl
