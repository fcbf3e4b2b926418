-- The records of a chart: its nodes and its relations, read off an image whose header passes, and written as an image whose counts are right. Assumes nothing.
use Rattle.std.specs.Prelude.{ℕ, ◌+◌, List, [], ◌∷◌, ◌++◌, length, get_or}
use Rattle.paper.specs.Limits.{chart_header, no_parent}
use Rattle.general.specs.Tables.{tabulate}
use Rattle.general.specs.Lists.{packed}
use Rattle.wire.specs.Wire.{u16_at, bytes16}
use Rattle.records.specs.Image.{nodes, relations, node_at, relation_at}

-- "Node: parent (16 bits, 65,535 for none), flags (16 bits)"
pub record Node : Type 0 where
  pub parent : ℕ
  pub flags : ℕ

-- "Relation: from, to, kind, 16 bits each."
pub record Relation : Type 0 where
  pub from : ℕ
  pub to : ℕ
  pub kind : ℕ

pub record Records : Type 0 where
  pub nodes : List Node
  pub relations : List Relation

-- ---- record by record: past the last stands one that says nothing

abbrev pub no_node : Node
no_node = record { parent = no_parent; flags = 0 }

abbrev pub no_relation : Relation
no_relation = record { from = 0; to = 0; kind = 0 }

-- N
abbrev pub count : Records → ℕ
count r = length r.nodes

-- K
abbrev pub relation_count : Records → ℕ
relation_count r = length r.relations

abbrev pub node_in : Records → ℕ → Node
node_in r i = get_or r.nodes i no_node

abbrev pub relation_in : Records → ℕ → Relation
relation_in r k = get_or r.relations k no_relation

-- ---- read off an image

unfoldable pub node_from : List ℕ → ℕ → Node
node_from image at = record { parent = u16_at image at; flags = u16_at image (at + 2) }

unfoldable pub relation_from : List ℕ → ℕ → Relation
relation_from image at = record { from = u16_at image at; to = u16_at image (at + 2); kind = u16_at image (at + 4) }

unfoldable pub records_of : List ℕ → Records
records_of image =
    record {
      nodes = tabulate (nodes image) (λ i. node_from image (node_at i));
      relations = tabulate (relations image) (λ k. relation_from image (relation_at (nodes image) k));
    }

-- ---- written as an image

unfoldable pub node_bytes : Node → List ℕ
node_bytes x = bytes16 x.parent ++ bytes16 x.flags

unfoldable pub relation_bytes : Relation → List ℕ
relation_bytes x = bytes16 x.from ++ (bytes16 x.to ++ bytes16 x.kind)

-- "Header, four 16-bit numbers: node count N, relation count K, offset of nodes (8), offset of relations (8 + 4N)."
unfoldable pub header_bytes : ℕ → ℕ → List ℕ
header_bytes n k = packed bytes16 (n ∷ (k ∷ (chart_header ∷ (node_at n ∷ []))))

-- "and the counts made right"
unfoldable pub chart_image : Records → List ℕ
chart_image r = header_bytes (count r) (relation_count r) ++ (packed node_bytes r.nodes ++ packed relation_bytes r.relations)
