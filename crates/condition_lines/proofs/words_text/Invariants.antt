-- The words passed are written.
use Rattle.derived.specs.WritingLoops.{Upto}
use Rattle.condition_lines.specs.Text.{word_text}
use Rattle.condition_lines.specs.Writers.{word_in}
use Rattle.condition_lines.proofs.words_text.Given as goal

abbrev pub invariant-loop-i : goal.invariant-loop-i
invariant-loop-i l = Upto word_text (word_in l.image l.from) l.count l.fn.room l.at l.i l.next l.room
