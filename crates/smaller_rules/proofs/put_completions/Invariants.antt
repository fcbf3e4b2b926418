use Rattle.flat_chart.specs.Numbers.{lent_of}
use Rattle.book.specs.ImageOf.{rule_bytes}
use Rattle.smaller.specs.Keeping.{keeping_of, completions_kept}
use Rattle.smaller.specs.Loops.{Upto}
use Rattle.smaller_rules.proofs.put_completions.Given as goal

-- the rules of the events passed are run
abbrev pub invariant-loop-e : goal.invariant-loop-e
invariant-loop-e l = Upto rule_bytes (completions_kept (keeping_of l.kept) (lent_of l.chart)) l.kept.n l.fn.room l.at l.e l.next l.room
