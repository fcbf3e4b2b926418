use Rattle.std.proofs.Common.{ℕ, List, ◌<◌, ◌≤◌, length}
use Rattle.general.specs.Comparing.{Stand}
use Rattle.derived.specs.Putting.{Puts}
use Rattle.derived_same.proofs.parts_same.Given as goal

-- the parts of the numbers passed stand
abbrev pub invariant-loop-k : goal.invariant-loop-k
invariant-loop-k g l =
    (parts : ℕ → List ℕ) → Puts l.n parts (goal.F-post g l.put) → ((k : ℕ) → k < l.n → length (parts k) ≤ length l.fn.part) → Stand parts l.n l.image l.at l.k l.next
