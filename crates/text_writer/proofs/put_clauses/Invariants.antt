use Rattle.wire.specs.Wire.{bytes16}
use Rattle.wide.specs.Number.{words_of, set_words}
use Rattle.std.proofs.Common.{◌*◌}
use Rattle.derived.specs.WritingLoops.{Upto}
use Rattle.derived.specs.RuleBytes.{word_clauses}
use Rattle.text_writer.proofs.put_clauses.Given as goal

-- the clauses on the members in the words passed are written
abbrev pub invariant-loop-i : goal.invariant-loop-i
invariant-loop-i l = Upto bytes16 (word_clauses (2 * l.n) l.base (words_of l.set)) set_words l.fn.room l.at l.i l.next l.room
