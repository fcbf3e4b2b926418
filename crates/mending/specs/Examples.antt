-- Damaged charts mended, with every change, by computation. Assumes nothing.
use Rattle.std.specs.Prelude.{ℕ, ◌≡◌, refl, [], ◌∷◌}
use Rattle.general.specs.Below.{some}
use Rattle.general.specs.Tables.{tabulate}
use Rattle.general.specs.Lists.{flat, packed}
use Rattle.wire.specs.Wire.{u16_at, bytes16}
use Rattle.closure.specs.Closure.{within}
use Rattle.nesting.specs.Nesting.{parent, nested, on_loop_at, is_group}
use Rattle.mending.specs.Records.{Node, Relation, Records, node_bytes, relation_bytes, header_bytes, chart_image}
use Rattle.mending.specs.Mending.{Change, alter, differs, alteration_at, alterations, missing, parent_mended, known_flags, flags_mended, cut_by, lowest_of_loop, group_mended}
use Rattle.mending.specs.Mending.{bad_number, kept_at, dropped_at, step5, drops, mended, changes}

abbrev node : ℕ → ℕ → Node
node p s = record { parent = p; flags = s }

abbrev relation : ℕ → ℕ → ℕ → Relation
relation a b k = record { from = a; to = b; kind = k }

abbrev entry : ℕ → ℕ → ℕ → ℕ → ℕ → Change
entry step number first second third = record { step = step; number = number; first = first; second = second; third = third }

-- nodes 0 and 1 are each other's parents; node 2 has no such parent, an unknown flag beside a role, and is the parent of 3; two relations have a bad number
abbrev pub damaged : Records
damaged =
    record {
      nodes = node 1 4 ∷ (node 0 2 ∷ (node 9 268 ∷ (node 2 1 ∷ [])));
      relations = relation 0 9 0 ∷ (relation 0 1 4 ∷ (relation 1 2 7 ∷ []));
    }

-- node 0 is cut off, the lowest of the loop, and is a group then; node 1 has lost its only member, is an event and keeps its flags; the role stays
abbrev pub repaired : Records
repaired =
    record {
      nodes = node 65535 0 ∷ (node 0 2 ∷ (node 65535 256 ∷ (node 2 1 ∷ [])));
      relations = relation 0 1 4 ∷ [];
    }

pub damaged-mended : mended damaged ≡ repaired
unfolding mended step5 alter missing parent_mended known_flags flags_mended cut_by lowest_of_loop group_mended bad_number kept_at chart_image header_bytes node_bytes relation_bytes packed flat tabulate
    bytes16 u16_at within parent nested on_loop_at is_group some
damaged-mended = refl

-- the entry of step 2 shows the parent as step 1 left it, and those of step 5 the relations' old numbers
pub damaged-changes : changes damaged
    ≡ entry 1 2 9 268 0 ∷ (entry 2 2 65535 268 0 ∷ (entry 3 0 1 4 0 ∷ (entry 4 0 65535 4 0 ∷ (entry 4 2 65535 260 0 ∷ (entry 5 0 0 9 0 ∷ (entry 5 2 1 2 7 ∷ []))))))
unfolding changes alterations alteration_at differs drops dropped_at alter missing parent_mended known_flags flags_mended cut_by lowest_of_loop group_mended bad_number chart_image header_bytes node_bytes
    relation_bytes packed flat tabulate bytes16 u16_at within parent nested on_loop_at is_group some
damaged-changes = refl
