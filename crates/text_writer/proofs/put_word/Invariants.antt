use Rattle.wire.specs.Wire.{bytes16}
use Rattle.derived.specs.Parts.{clause_from}
use Rattle.derived.specs.WritingLoops.{Turn}
use Rattle.text_writer.proofs.put_word.Given as goal

-- what the members left give is left to write
abbrev pub invariant-loop-rest : goal.invariant-loop-rest
invariant-loop-rest l = Turn bytes16 (clause_from l.included l.base) 64 l.word l.fn.room l.at l.rest l.next l.room

abbrev pub decreases-loop-rest : goal.decreases-loop-rest
decreases-loop-rest l = l.rest
