use Rattle.derived_same.proofs.Comparing.{slice-stands}
use Rattle.derived_same.proofs.part_stands.Goals as goal

pub returns : goal.returns
returns c = slice-stands _ _ _ _ c.requires.0 c.requires.1 c.eq.ensures
