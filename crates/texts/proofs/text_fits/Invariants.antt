-- The rest of the text is good at this depth exactly if the whole is, and the set has the marks of the words passed.
use Rattle.texts.proofs.Depths.{Deep}
use Rattle.texts.proofs.Naming.{Noting}
use Rattle.texts.proofs.text_fits.Given as goal

abbrev pub invariant-loop-i : goal.invariant-loop-i
invariant-loop-i l = record {
  deep : Deep l.marks l.image l.at l.count l.depth l.i;
  noting : Noting l.image l.at l.count l.fn.named l.named l.i;
}
