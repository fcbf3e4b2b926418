-- The loop's invariant is `Going`: the rest of the text says of the number's stack what the whole says of none.
use Rattle.book.specs.Text.{snap_of}
use Rattle.texts.proofs.Stacks.{Going}
use Rattle.texts.proofs.eval.text_holds.Given as goal

abbrev pub invariant-loop-i : goal.invariant-loop-i
invariant-loop-i l = Going l.image l.at l.count (snap_of l.marks) l.values l.i
