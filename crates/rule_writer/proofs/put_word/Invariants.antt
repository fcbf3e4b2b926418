use Rattle.book.specs.ImageOf.{rule_bytes}
use Rattle.derived.specs.Sizes.{effect}
use Rattle.derived.specs.WritingLoops.{Turn}
use Rattle.rule_writer.proofs.put_word.Given as goal

-- what the members left give is left to write
abbrev pub invariant-loop-rest : goal.invariant-loop-rest
invariant-loop-rest l = Turn rule_bytes (effect l.e l.raise l.base) 64 l.among l.fn.room l.at l.rest l.next l.room

abbrev pub decreases-loop-rest : goal.decreases-loop-rest
decreases-loop-rest l = l.rest
