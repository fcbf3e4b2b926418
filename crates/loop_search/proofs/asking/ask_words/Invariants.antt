use Rattle.loop_search.proofs.Words.{Asking}
use Rattle.loop_search.proofs.asking.ask_words.Given as goal

abbrev pub invariant-loop-i : goal.invariant-loop-i
invariant-loop-i l = Asking l.image l.at l.count l.reached l.all l.i
