-- The chart image: its header, its node records and its relation records, each field at one place, and the header's tests. Assumes nothing.
use Rattle.std.specs.Prelude.{ℕ, ◌+◌, ◌*◌, ◌/◌, ◌%◌, ◌≤◌, ◌≡◌, Bool, not, ◌&&◌, ◌||◌, List, length, eqb, leb, ltb}
use Rattle.paper.specs.Limits.{max_nodes, max_relations, chart_header, node_size, relation_size, no_parent, max_flags, flags_byte, kinds}
use Rattle.wire.specs.Wire.{u16_at}

-- ---- the header: four 16-bit numbers

-- N
abbrev pub nodes : List ℕ → ℕ
nodes image = u16_at image 0

-- K
abbrev pub relations : List ℕ → ℕ
relations image = u16_at image 2

abbrev pub nodes_offset : List ℕ → ℕ
nodes_offset image = u16_at image 4

abbrev pub relations_offset : List ℕ → ℕ
relations_offset image = u16_at image 6

-- ---- a node: parent, flags

abbrev pub node_at : ℕ → ℕ
node_at i = chart_header + node_size * i

abbrev pub parent_of : List ℕ → ℕ → ℕ
parent_of image i = u16_at image (node_at i)

abbrev pub flags_of : List ℕ → ℕ → ℕ
flags_of image i = u16_at image (node_at i + 2)

-- "The lower byte keeps its old rules": the node's state
abbrev pub state_of : List ℕ → ℕ → ℕ
state_of image i = flags_of image i % flags_byte

-- "the upper byte of a node's flags, also on groups": role r is bit r
abbrev pub roles_at : List ℕ → ℕ → ℕ
roles_at image i = flags_of image i / flags_byte

-- ---- a relation: from, to, kind

abbrev pub relation_at : ℕ → ℕ → ℕ
relation_at n k = node_at n + relation_size * k

abbrev pub from_of : List ℕ → ℕ → ℕ
from_of image k = u16_at image (relation_at (nodes image) k)

abbrev pub to_of : List ℕ → ℕ → ℕ
to_of image k = u16_at image (relation_at (nodes image) k + 2)

abbrev pub kind_of : List ℕ → ℕ → ℕ
kind_of image k = u16_at image (relation_at (nodes image) k + 4)

-- ---- what is wrong with a header

-- "N or K out of range"
unfoldable pub out_of_range : List ℕ → Bool
out_of_range image = eqb (nodes image) 0 || ltb max_nodes (nodes image) || ltb max_relations (relations image)

-- "offset or length wrong"
unfoldable pub misplaced : List ℕ → Bool
misplaced image =
    not (eqb (nodes_offset image) chart_header && eqb (relations_offset image) (node_at (nodes image))
    && eqb (length image) (relation_at (nodes image) (relations image)))

-- ---- what is wrong with a record

-- a parent that does not exist, or a state above 7
unfoldable pub bad_node_at : List ℕ → ℕ → Bool
bad_node_at image i = (not (eqb (parent_of image i) no_parent) && leb (nodes image) (parent_of image i)) || ltb max_flags (state_of image i)

-- a from or a to that does not exist, or a kind above 4
unfoldable pub bad_relation_at : List ℕ → ℕ → Bool
bad_relation_at image k = leb (nodes image) (from_of image k) || leb (nodes image) (to_of image k) || leb kinds (kind_of image k)

-- an image whose header is right, of n nodes and k relations
pub record Whole (image : List ℕ) (n k : ℕ) : Type 0 where
  pub nodes : n ≡ nodes image
  pub relations : k ≡ relations image
  pub some : 1 ≤ n
  pub few : n ≤ max_nodes
  pub few_relations : k ≤ max_relations
  pub whole : length image ≡ relation_at n k
