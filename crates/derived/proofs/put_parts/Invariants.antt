use Rattle.std.proofs.Common.{ℕ, List}
use Rattle.general.specs.Lists.{flat}
use Rattle.general.specs.Writing.{Runs, Fits}
use Rattle.derived.specs.Putting.{Puts}
use Rattle.derived.proofs.put_parts.Given as goal

-- the parts of the numbers passed are written
abbrev pub invariant-loop-k : goal.invariant-loop-k
invariant-loop-k g l =
    (parts : ℕ → List ℕ) → Puts l.n parts (goal.F-post g l.put) → Fits l.fn.room l.at (flat l.n parts) → Runs parts l.n l.fn.room l.at l.k l.next l.room
