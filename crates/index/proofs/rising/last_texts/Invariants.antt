-- `index::rising::last_texts`: the conditions so far.
use Rattle.index.specs.Ascending.{Asking}
use Rattle.index.proofs.rising.last_texts.Given as goal

abbrev pub invariant-loop-c : goal.invariant-loop-c
invariant-loop-c l = Asking l.image l.last l.c l.asked
