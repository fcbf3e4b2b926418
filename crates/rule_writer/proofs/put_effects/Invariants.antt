use Rattle.book.specs.ImageOf.{rule_bytes}
use Rattle.wide.specs.Number.{words_of, set_words}
use Rattle.derived.specs.WritingLoops.{Upto}
use Rattle.derived.specs.RuleBytes.{word_effects}
use Rattle.rule_writer.proofs.put_effects.Given as goal

-- the rules on the members in the words passed are written
abbrev pub invariant-loop-i : goal.invariant-loop-i
invariant-loop-i l = Upto rule_bytes (word_effects l.e (words_of l.raise) (words_of l.among) l.base) set_words l.fn.room l.at l.i l.next l.room
