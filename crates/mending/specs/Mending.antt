-- Request (xiii): the five steps that mend the records of a chart, each a function from records to records, and the list of the changes. Assumes nothing.
use Rattle.std.specs.Prelude.{ℕ, ◌+◌, ◌*◌, ◌/◌, ◌%◌, Bool, not, cond, ◌&&◌, ◌||◌, List, [], ◌∷◌, ◌++◌, eqb, leb}
use Rattle.paper.specs.Limits.{no_parent, flags_byte, kinds, mend_parent, mend_flags, mend_loop, mend_group, mend_relation}
use Rattle.general.specs.Below.{some, Lowest}
use Rattle.general.specs.Tables.{tabulate}
use Rattle.general.specs.Lists.{flat, packed}
use Rattle.wire.specs.Wire.{bytes16}
use Rattle.nesting.specs.Nesting.{OnLoop, nested, on_loop_at, is_group}
use Rattle.mending.specs.Records.{Node, Relation, Records, count, relation_count, node_in, relation_in, chart_image}

-- ---- a change

-- "An entry is five 16-bit numbers: step 1 to 5, record number, and the record as it stood before that step (a node's two numbers and 0, a relation's three)."
pub record Change : Type 0 where
  pub step : ℕ
  pub number : ℕ
  pub first : ℕ
  pub second : ℕ
  pub third : ℕ

abbrev pub node_change : ℕ → ℕ → Node → Change
node_change step i x = record { step = step; number = i; first = x.parent; second = x.flags; third = 0 }

abbrev pub relation_change : ℕ → Relation → Change
relation_change k x = record { step = mend_relation; number = k; first = x.from; second = x.to; third = x.kind }

unfoldable pub change_bytes : Change → List ℕ
change_bytes c = packed bytes16 (c.step ∷ (c.number ∷ (c.first ∷ (c.second ∷ (c.third ∷ [])))))

-- ---- a step over the nodes: node i, of record x, gets the record f i x

unfoldable pub alter : (ℕ → Node → Node) → Records → Records
alter f r = record { nodes = tabulate (count r) (λ i. f i (node_in r i)); relations = r.relations }

unfoldable pub differs : Node → Node → Bool
differs x y = not (eqb x.parent y.parent && eqb x.flags y.flags)

-- what the list says of node i
unfoldable pub alteration_at : ℕ → (ℕ → Node → Node) → Records → ℕ → List Change
alteration_at step f r i = cond (differs (f i (node_in r i)) (node_in r i)) (node_change step i (node_in r i) ∷ []) []

-- "each change once", "lowest record first"
unfoldable pub alterations : ℕ → (ℕ → Node → Node) → Records → List Change
alterations step f r = flat (count r) (alteration_at step f r)

abbrev pub without_parent : Node → Node
without_parent x = record { parent = no_parent; flags = x.flags }

abbrev pub with_flags : ℕ → Node → Node
with_flags s x = record { parent = x.parent; flags = s }

-- ---- 1: "a parent that doesn't exist becomes none"

unfoldable pub missing : ℕ → Node → Bool
missing n x = not (eqb x.parent no_parent) && leb n x.parent

unfoldable pub parent_mended : Records → ℕ → Node → Node
parent_mended r i x = cond (missing (count r) x) (without_parent x) x

abbrev pub step1 : Records → Records
step1 r = alter (parent_mended r) r

-- ---- 2: "flag bits 8 to 128 are cleared"

-- the flags 1, 2 and 4
abbrev pub state_flags : ℕ
state_flags = 8

unfoldable pub known_flags : ℕ → ℕ
known_flags s = s % state_flags + flags_byte * (s / flags_byte)

unfoldable pub flags_mended : ℕ → Node → Node
flags_mended i x = with_flags (known_flags x.flags) x

abbrev pub step2 : Records → Records
step2 r = alter flags_mended r

-- ---- 3: "while parents loop, the lowest node on a loop loses its parent"

-- the nodes that the test names lose their parents
unfoldable pub cut_by : (ℕ → Bool) → ℕ → Node → Node
cut_by m i x = cond (m i) (without_parent x) x

-- node i loses its parent
abbrev pub cut_at : ℕ → Records → Records
cut_at i r = alter (cut_by (λ j. eqb j i)) r

-- in so many words: which nodes lose their parents, in which order, and what is left when no parents loop
pub data Cuts : Records → List ℕ → Records → Type 0 where
  done : {r : Records} → ((i : ℕ) → OnLoop (chart_image r) i → ⊥) → Cuts r [] r
  cut : {r s : Records} {i : ℕ} {l : List ℕ} → Lowest (count r) (OnLoop (chart_image r)) i → Cuts (cut_at i r) l s → Cuts r (i ∷ l) s

-- in one walk: those are the nodes that are the lowest of their loop. What lies above a node on a loop is its loop.
unfoldable pub lowest_of_loop : List ℕ → ℕ → Bool
lowest_of_loop image i = on_loop_at image i && not (some i (nested image i))

abbrev pub loop_mended : Records → ℕ → Node → Node
loop_mended r = cut_by (lowest_of_loop (chart_image r))

abbrev pub step3 : Records → Records
step3 r = alter (loop_mended r) r

-- ---- 4: "a group's lowest three flags are cleared"

unfoldable pub group_mended : Records → ℕ → Node → Node
group_mended r i x = cond (is_group (chart_image r) i) (with_flags (state_flags * (x.flags / state_flags)) x) x

abbrev pub step4 : Records → Records
step4 r = alter (group_mended r) r

-- ---- 5: "relation records with a bad number are dropped"

unfoldable pub bad_number : ℕ → Relation → Bool
bad_number n x = leb n x.from || leb n x.to || leb kinds x.kind

unfoldable pub kept_at : Records → ℕ → List Relation
kept_at r k = cond (bad_number (count r) (relation_in r k)) [] (relation_in r k ∷ [])

unfoldable pub dropped_at : Records → ℕ → List Change
dropped_at r k = cond (bad_number (count r) (relation_in r k)) (relation_change k (relation_in r k) ∷ []) []

unfoldable pub step5 : Records → Records
step5 r = record { nodes = r.nodes; relations = flat (relation_count r) (kept_at r) }

unfoldable pub drops : Records → List Change
drops r = flat (relation_count r) (dropped_at r)

-- ---- "by these steps in order"

module _ (r : Records) where
  abbrev pub parents_mended : Records
  parents_mended = step1 r

  abbrev pub nodes_known : Records
  nodes_known = step2 parents_mended

  abbrev pub loops_mended : Records
  loops_mended = step3 nodes_known

  abbrev pub groups_mended : Records
  groups_mended = step4 loops_mended

  unfoldable pub mended : Records
  mended = step5 groups_mended

  -- "The list has each change once, in that order, lowest record first."
  unfoldable pub changes : List Change
  changes =
      alterations mend_parent (parent_mended r) r
      ++ (alterations mend_flags flags_mended parents_mended
      ++ (alterations mend_loop (loop_mended nodes_known) nodes_known ++ (alterations mend_group (group_mended loops_mended) loops_mended ++ drops groups_mended)))
