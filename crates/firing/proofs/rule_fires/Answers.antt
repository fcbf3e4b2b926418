-- `firing::rule_fires` meets its contract: the stages and marks that exist lie below the limits.
use Rattle.book.specs.WellRead.{known-wider}
use Rattle.firing.proofs.rule_fires.Goals as goal

pub trigger_holds-requires : goal.trigger_holds-requires
trigger_holds-requires c =
    let counted = c.requires.0.formed.headed.counted in
    known-wider _ _ _ _ _ counted.stages counted.marks c.requires.1.trigger
