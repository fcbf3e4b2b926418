-- A snapshot for the theorems: whether a mark is yes. Assumes nothing.
use Rattle.std.specs.Prelude.{ℕ, Bool, false, List, get_or}

abbrev pub Snap : Type 0
Snap = ℕ → Bool

-- marks in a list; past its end they are no
abbrev pub snap_of : List Bool → Snap
snap_of l m = get_or l m false
