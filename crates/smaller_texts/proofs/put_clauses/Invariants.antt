use Rattle.wide.specs.Number.{number}
use Rattle.smaller_texts.proofs.Texts.{Turn}
use Rattle.smaller_texts.proofs.put_clauses.Given as goal

-- the loop takes the lowest member out of the set: the clauses of the rest of the set are left to write
abbrev pub invariant-loop-guards : goal.invariant-loop-guards
invariant-loop-guards l = Turn l.kept.table.now l.kept.n (number l.guards) l.base (number l.fn.among) l.start l.fn.room l.at (number l.rest) l.next l.room

abbrev pub decreases-loop-guards : goal.decreases-loop-guards
decreases-loop-guards l = number l.rest
