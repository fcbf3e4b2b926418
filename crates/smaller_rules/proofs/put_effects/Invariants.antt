use Rattle.wide.specs.Number.{number}
use Rattle.book.specs.ImageOf.{rule_bytes}
use Rattle.derived.specs.WritingLoops.{Turn}
use Rattle.smaller.specs.Runs.{effect_by}
use Rattle.smaller_rules.proofs.put_effects.Given as goal

-- the loop takes the lowest member out of the set: what the rest of the set gives is left to write
abbrev pub invariant-loop-raise : goal.invariant-loop-raise
invariant-loop-raise l =
    Turn rule_bytes (effect_by l.kept.table.now l.e (number l.raise) l.base) l.kept.n (number l.fn.among) l.fn.room l.at (number l.rest) l.next l.room

abbrev pub decreases-loop-raise : goal.decreases-loop-raise
decreases-loop-raise l = number l.rest
