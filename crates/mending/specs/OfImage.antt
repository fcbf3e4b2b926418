-- What the five steps make of an image, record by record in the image's own numbers: the form that the code computes. Assumes nothing.
use Rattle.std.specs.Prelude.{ℕ, ◌*◌, ◌/◌, ◌%◌, Bool, not, cond, ◌&&◌, ◌||◌, List, [], ◌∷◌, ◌++◌, eqb, leb}
use Rattle.paper.specs.Limits.{no_parent, flags_byte, mend_parent, mend_flags, mend_loop, mend_group}
use Rattle.general.specs.Below.{some, tally}
use Rattle.general.specs.Lists.{flat}
use Rattle.records.specs.Image.{nodes, relations, parent_of, flags_of, from_of, to_of, kind_of, bad_relation_at}
use Rattle.nesting.specs.Nesting.{parent}
use Rattle.mending.specs.Records.{Node, node_bytes, relation_bytes, header_bytes}
use Rattle.mending.specs.Mending.{Change, node_change, relation_change, state_flags, known_flags, lowest_of_loop}

module _ (image : List ℕ) where
  -- 1: node i has a parent that does not exist
  unfoldable pub missing_at : ℕ → Bool
  missing_at i = not (eqb (parent_of image i) no_parent) && leb (nodes image) (parent_of image i)

  -- the parent after step 1
  unfoldable pub existing_parent : ℕ → ℕ
  existing_parent i = cond (missing_at i) no_parent (parent_of image i)

  -- 2: node i has a flag from 8 to 128
  unfoldable pub unknown_at : ℕ → Bool
  unknown_at i = not (eqb (known_flags (flags_of image i)) (flags_of image i))

  -- the parent after step 3
  unfoldable pub last_parent : ℕ → ℕ
  last_parent i = cond (missing_at i || lowest_of_loop image i) no_parent (parent_of image i)

  -- node i is a group after step 3
  unfoldable pub group_left : ℕ → Bool
  group_left i = some (nodes image) (λ a. parent image a i && not (lowest_of_loop image a))

  -- 4: node i is a group with flags
  unfoldable pub flagged_at : ℕ → Bool
  flagged_at i = group_left i && not (eqb (flags_of image i % state_flags) 0)

  -- the flags after step 4
  unfoldable pub last_flags : ℕ → ℕ
  last_flags i = cond (group_left i) (flags_byte * (flags_of image i / flags_byte)) (known_flags (flags_of image i))

  -- ---- what is written of a node and of a relation

  abbrev pub node : ℕ → ℕ → Node
  node p s = record { parent = p; flags = s }

  unfoldable pub node_part : ℕ → List ℕ
  node_part i = node_bytes (node (last_parent i) (last_flags i))

  unfoldable pub relation_part : ℕ → List ℕ
  relation_part k = cond (bad_relation_at image k) [] (relation_bytes (record { from = from_of image k; to = to_of image k; kind = kind_of image k }))

  -- the relations that stay
  unfoldable pub relations_left : ℕ
  relations_left = tally (relations image) (λ k. not (bad_relation_at image k))

  unfoldable pub mended_runs : List ℕ
  mended_runs = header_bytes (nodes image) relations_left ++ (flat (nodes image) node_part ++ flat (relations image) relation_part)

  -- ---- what the list says of a node at each step, and of a relation

  abbrev pub entry_if : Bool → Change → List Change
  entry_if t c = cond t (c ∷ []) []

  unfoldable pub entry_at1 : ℕ → List Change
  entry_at1 i = entry_if (missing_at i) (node_change mend_parent i (node (parent_of image i) (flags_of image i)))

  unfoldable pub entry_at2 : ℕ → List Change
  entry_at2 i = entry_if (unknown_at i) (node_change mend_flags i (node (existing_parent i) (flags_of image i)))

  unfoldable pub entry_at3 : ℕ → List Change
  entry_at3 i = entry_if (lowest_of_loop image i) (node_change mend_loop i (node (parent_of image i) (known_flags (flags_of image i))))

  unfoldable pub entry_at4 : ℕ → List Change
  entry_at4 i = entry_if (flagged_at i) (node_change mend_group i (node (last_parent i) (known_flags (flags_of image i))))

  unfoldable pub entry_at5 : ℕ → List Change
  entry_at5 k = entry_if (bad_relation_at image k) (relation_change k (record { from = from_of image k; to = to_of image k; kind = kind_of image k }))

  unfoldable pub entries : List Change
  entries =
      flat (nodes image) entry_at1 ++ (flat (nodes image) entry_at2 ++ (flat (nodes image) entry_at3 ++ (flat (nodes image) entry_at4 ++ flat (relations image) entry_at5)))
