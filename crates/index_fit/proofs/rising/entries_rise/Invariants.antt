-- `index_fit::rising::entries_rise`: the entries so far.
use Rattle.index_fit.proofs.Climbing.{Climbing}
use Rattle.index_fit.proofs.rising.entries_rise.Given as goal

abbrev pub invariant-loop-j : goal.invariant-loop-j
invariant-loop-j l = Climbing l.image l.stage l.index l.at l.counted l.j l.next l.from
