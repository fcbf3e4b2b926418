-- The lines of the conditions passed are written.
use Rattle.writing.specs.Writers.{Lines}
use Rattle.condition_lines.specs.Writers.{condition_line_at}
use Rattle.condition_lines.proofs.condition_lines.Given as goal

abbrev pub invariant-loop-c : goal.invariant-loop-c
invariant-loop-c l = Lines (condition_line_at l.image l.h.rules l.h.conditions) l.h.conditions l.fn.room l.at l.c l.next l.room
