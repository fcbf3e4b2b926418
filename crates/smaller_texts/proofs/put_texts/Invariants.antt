use Rattle.flat_chart.specs.Numbers.{lent_of}
use Rattle.wire.specs.Wire.{bytes16}
use Rattle.smaller.specs.Keeping.{keeping_of, texts_kept}
use Rattle.smaller.specs.Loops.{Upto}
use Rattle.smaller_texts.proofs.put_texts.Given as goal

-- the texts of the events passed are run
abbrev pub invariant-loop-e : goal.invariant-loop-e
invariant-loop-e l = Upto bytes16 (texts_kept (keeping_of l.kept) (lent_of l.chart)) l.kept.n l.fn.room l.at l.e l.next l.room
