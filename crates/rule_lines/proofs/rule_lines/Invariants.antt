-- The lines of the rules passed are written.
use Rattle.writing.specs.Writers.{Lines}
use Rattle.rule_lines.specs.Writers.{rule_line_at}
use Rattle.rule_lines.proofs.rule_lines.Given as goal

abbrev pub invariant-loop-i : goal.invariant-loop-i
invariant-loop-i l = Lines (rule_line_at l.image) l.h.rules l.fn.room l.at l.i l.next l.room
