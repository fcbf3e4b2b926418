use Rattle.std.proofs.Common.{◌≡◌}
use Rattle.std.proofs.lemmas.List.Edits.{sets}
use Rattle.general.specs.Lists.{each}
use Rattle.sets.specs.Set.{has}
use Rattle.wide.specs.Number.{number}
use Rattle.deriver.proofs.marks.put_marks.Given as goal

-- the marks of the events passed are written
abbrev pub invariant-loop-e : goal.invariant-loop-e
invariant-loop-e l = l.marks ≡ sets l.fn.marks l.at (each l.e (has (number l.set)))
