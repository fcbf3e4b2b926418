-- The list has each change once, in the order of the steps, lowest record first; and a record without an entry is as it was. Assumes nothing.
use Prim.Native.Nat.{ℕ, ◌<◌}
use Rattle.std.specs.Prelude.{◌≡◌, ◌⊎◌, true}
use mathlib.Core.List.{List, [], ◌∷◌}
use Rattle.paper.specs.Limits.{mend_parent, mend_flags, mend_loop, mend_group}
use Rattle.general.specs.Lists.{All}
use Rattle.mending.specs.Records.{Records, count, relation_count, node_in, relation_in}
use Rattle.mending.specs.Mending.{Change, node_change, relation_change}
use Rattle.mending.specs.Mending.{bad_number, parents_mended, nodes_known, loops_mended, groups_mended}

-- ---- "in that order, lowest record first"

-- the entry c comes before the entry e
abbrev pub Before : Change → Change → Type 0
Before c e = (c.step < e.step) ⊎ ((c.step ≡ e.step) × (c.number < e.number))

-- each entry comes before all that follow it, so that no step has two of one record
abbrev pub Rising : List Change → Type 0
Rising [] = Unit {0}
Rising (c ∷ l) = All (Before c) l × Rising l

-- ---- "each change once"

abbrev pub Listed : Change → List Change → Type 0
Listed c [] = ⊥
Listed c (e ∷ l) = (c ≡ e) ⊎ Listed c l

-- the entry tells a change: with "the record as it stood before that step"
pub data Tells (r : Records) : Change → Type 0 where
  parent : (i : ℕ) → i < count r → (node_in (parents_mended r) i ≡ node_in r i → ⊥) → Tells r (node_change mend_parent i (node_in r i))
  flags : (i : ℕ) → i < count r → (node_in (nodes_known r) i ≡ node_in (parents_mended r) i → ⊥) → Tells r (node_change mend_flags i (node_in (parents_mended r) i))
  loop : (i : ℕ) → i < count r → (node_in (loops_mended r) i ≡ node_in (nodes_known r) i → ⊥) → Tells r (node_change mend_loop i (node_in (nodes_known r) i))
  group : (i : ℕ) → i < count r → (node_in (groups_mended r) i ≡ node_in (loops_mended r) i → ⊥) → Tells r (node_change mend_group i (node_in (loops_mended r) i))
  relation : (k : ℕ) → k < relation_count r → bad_number (count r) (relation_in r k) ≡ true → Tells r (relation_change k (relation_in r k))
