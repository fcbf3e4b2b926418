-- An image of records reads back as the records, and bytes whose header passes are the image of their own records. Assumes nothing.
use Prim.Native.Nat.{ℕ, suc, ◌+◌, ◌*◌, ◌/◌, ◌%◌, ◌≤◌, ◌<◌}
use Rattle.std.specs.Prelude.{◌≡◌, refl, false, take, eqb}
use Rattle.std.proofs.Common.{sym, ap₂, ◌∙◌, add-one, length-append, drop-drop}
use Rattle.std.proofs.Math.Path.{ap}
use mathlib.Core.List.{List, [], ◌∷◌, ◌++◌, append_assoc, append-nil}
use Rattle.std.proofs.Math.Nat.{add_assoc}
use native.Mathlib.Omega.{arith}
use Rattle.std.proofs.Math.ListN.{length, get_or, drop, drop_of_length-le}
use Rattle.std.proofs.Math.Seq.{drop-cons, take-add}
use borrow.Author.Tests.{eqb-true, not-false}
use Rattle.paper.specs.Limits.{chart_header, node_size, relation_size}
use Rattle.general.specs.Tables.{tabulate, length-tabulate, get_or-tabulate}
use Rattle.general.specs.Lists.{flat, flat-same, packed, packed-flat, length-packed, All, all-at, tabulated}
use Rattle.general.specs.Packing.{Local, read-run, read_behind, parts-behind}
use Rattle.wire.specs.Wire.{u16_at, bytes16}
use Rattle.wire.specs.Laws.{u16-first, u16-second, u16-bytes, length-bytes16}
use Rattle.general.specs.Cases.{all3}
use Rattle.records.specs.Image.{misplaced, nodes, relations, nodes_offset, relations_offset, node_at, relation_at, parent_of, flags_of}
use Rattle.mending.specs.Records.{Node, Relation, Records, count, relation_count, node_in, relation_in, no_node, no_relation, node_from, relation_from, records_of}
use Rattle.mending.specs.Records.{node_bytes, relation_bytes, header_bytes, chart_image}

-- ---- a record reads back

number-local : Local u16_at 2
number-local = record { first = u16-first; second = u16-second }

node-local : Local node_from node_size
unfolding node_from
node-local =
    record {
      first = λ s t at h. rw (u16-first s t at (omega arith), u16-first s t (at + 2) (omega arith));
      second = λ s t at. rw (add_assoc (length s) at 2, u16-second s t at, u16-second s t (at + 2));
    }

relation-local : Local relation_from relation_size
unfolding relation_from
relation-local =
    record {
      first = λ s t at h. rw (u16-first s t at (omega arith), u16-first s t (at + 2) (omega arith), u16-first s t (at + 4) (omega arith));
      second = λ s t at. rw (add_assoc (length s) at 2, add_assoc (length s) at 4, u16-second s t at, u16-second s t (at + 2), u16-second s t (at + 4));
    }

number16 : (n : ℕ) → n % 256 + 256 * (n / 256) ≡ n
number16 n = omega arith

node-back : (x : Node) → node_from (node_bytes x) 0 ≡ x
unfolding node_from node_bytes u16_at bytes16
node-back x = rw (number16 x.parent, number16 x.flags)

relation-back : (x : Relation) → relation_from (relation_bytes x) 0 ≡ x
unfolding relation_from relation_bytes u16_at bytes16
relation-back x = rw (number16 x.from, number16 x.to, number16 x.kind)

pub length-node : (x : Node) → length (node_bytes x) ≡ node_size
unfolding node_bytes bytes16
length-node x = refl

pub length-relation : (x : Relation) → length (relation_bytes x) ≡ relation_size
unfolding relation_bytes bytes16
length-relation x = refl

pub length-header : (n k : ℕ) → length (header_bytes n k) ≡ chart_header
unfolding header_bytes packed bytes16
length-header n k = refl

-- ---- the image reads back

module _ (r : Records) where
  abbrev heads : List ℕ
  heads = header_bytes (count r) (relation_count r)

  abbrev node_run : List ℕ
  node_run = packed node_bytes r.nodes

  abbrev relation_run : List ℕ
  relation_run = packed relation_bytes r.relations

  -- the header's number i
  header_at : (i : ℕ) → i < 4 → u16_at (chart_image r) (2 * i) ≡ get_or (count r ∷ (relation_count r ∷ (chart_header ∷ (node_at (count r) ∷ [])))) i 0
  unfolding chart_image header_bytes
  header_at i h = read-run bytes16 u16_at 2 length-bytes16 number-local 0 _ (node_run ++ relation_run) i h ∙ u16-bytes _

  pub image-nodes : nodes (chart_image r) ≡ count r
  image-nodes = header_at 0 (omega arith)

  pub image-relations : relations (chart_image r) ≡ relation_count r
  image-relations = header_at 1 (omega arith)

  pub image-offset : nodes_offset (chart_image r) ≡ chart_header
  image-offset = header_at 2 (omega arith)

  pub image-offset-2 : relations_offset (chart_image r) ≡ node_at (count r)
  image-offset-2 = header_at 3 (omega arith)

  length-nodes : length (heads ++ node_run) ≡ node_at (count r)
  length-nodes = length-append heads node_run ∙ rw (length-header (count r) (relation_count r), length-packed node_bytes node_size length-node r.nodes)

  -- "Length is exactly 8 + 4N + 6K."
  pub image-length : length (chart_image r) ≡ relation_at (count r) (relation_count r)
  unfolding chart_image
  image-length =
      rw (← append_assoc heads node_run relation_run)
      (length-append (heads ++ node_run) relation_run ∙ rw (length-nodes, length-packed relation_bytes relation_size length-relation r.relations))

  pub image-node : (i : ℕ) → i < count r → node_from (chart_image r) (node_at i) ≡ node_in r i
  unfolding chart_image
  image-node i h =
      read_behind node_bytes node_from node_size length-node node-local no_node heads r.nodes relation_run chart_header (length-header (count r) (relation_count r)) i h
      ∙ node-back (node_in r i)

  pub image-relation : (k : ℕ) → k < relation_count r → relation_from (chart_image r) (relation_at (count r) k) ≡ relation_in r k
  unfolding chart_image
  image-relation k h =
      rw (← append_assoc heads node_run relation_run, ← append-nil relation_run)
      (read_behind relation_bytes relation_from relation_size length-relation relation-local no_relation (heads ++ node_run) r.relations [] (node_at (count r)) length-nodes k h
      ∙ relation-back (relation_in r k))

  pub image-parent : (i : ℕ) → i < count r → parent_of (chart_image r) i ≡ (node_in r i).parent
  unfolding node_from
  image-parent i h = ap (λ (x : Node). x.parent) (image-node i h)

  pub image-flags : (i : ℕ) → i < count r → flags_of (chart_image r) i ≡ (node_in r i).flags
  unfolding node_from
  image-flags i h = ap (λ (x : Node). x.flags) (image-node i h)

  -- what is written is what is read
  pub records-back : records_of (chart_image r) ≡ r
  unfolding records_of
  records-back = rw (image-nodes, image-relations) (ap₂ (λ (n : List Node) (l : List Relation). record { nodes = n; relations = l })
      (tabulated no_node r.nodes (λ i. node_from (chart_image r) (node_at i)) image-node)
      (tabulated no_relation r.relations (λ k. relation_from (chart_image r) (relation_at (count r) k)) image-relation))

-- ---- bytes are the image of their records

abbrev pub Byte : ℕ → Type 0
Byte x = x < 256

packed-table : {A B : Type 0} (f : A → List B) (d : A) (n : ℕ) (F : ℕ → A) → packed f (tabulate n F) ≡ flat n (λ i. f (F i))
packed-table f d n F =
    packed-flat f d (tabulate n F) ∙ rw (length-tabulate n F) (flat-same n (λ j. f (get_or (tabulate n F) j d)) (λ i. f (F i)) (λ i h. rw (get_or-tabulate n F i d h)))

module _ (s : List ℕ) (b : All Byte s) where
  cut16 : (at : ℕ) → at + 2 ≤ length s → take 2 (drop at s) ≡ bytes16 (u16_at s at)
  unfolding bytes16 u16_at
  cut16 at h =
      let x : ℕ = get_or s at 0 in
      let y : ℕ = get_or s (at + 1) 0 in
      let l : x < 256 = all-at Byte 0 s b at (omega arith) in
      let m : y < 256 = all-at Byte 0 s b (at + 1) (omega arith) in
      let p : (x + 256 * y) % 256 ≡ x = omega arith in
      let q : (x + 256 * y) / 256 ≡ y = omega arith in
      let e : drop at s ≡ x ∷ (y ∷ drop (suc (at + 1)) s) =
      drop-cons s at 0 (omega arith) ∙ ap (λ (l : List ℕ). x ∷ l) (ap (λ (n : ℕ). drop n s) (sym (add-one at)) ∙ drop-cons s (at + 1) 0 (omega arith)) in
      ap (take 2) e ∙ rw (p, q)

  cut-node : (at : ℕ) → at + 4 ≤ length s → take 4 (drop at s) ≡ node_bytes (node_from s at)
  unfolding node_bytes node_from
  cut-node at h = take-add 2 2 (drop at s) ∙ rw (drop-drop 2 at s, cut16 at (omega arith), cut16 (at + 2) (omega arith))

  cut-relation : (at : ℕ) → at + 6 ≤ length s → take 6 (drop at s) ≡ relation_bytes (relation_from s at)
  unfolding relation_bytes relation_from node_bytes node_from
  cut-relation at h =
      take-add 2 4 (drop at s) ∙ rw (drop-drop 2 at s, cut16 at (omega arith), cut-node (at + 2) (omega arith), add_assoc at 2 2)

  cut-header : 8 ≤ length s → flat 4 (λ i. take 2 (drop (0 + 2 * i) s)) ≡ packed bytes16 (u16_at s 0 ∷ (u16_at s 2 ∷ (u16_at s 4 ∷ (u16_at s 6 ∷ []))))
  unfolding packed flat bytes16
  cut-header h = rw (cut16 0 (omega arith), cut16 2 (omega arith), cut16 4 (omega arith), cut16 6 (omega arith))

  -- "Take a chart whose header passes"
  pub image-back : misplaced s ≡ false → chart_image (records_of s) ≡ s
  unfolding misplaced chart_image records_of header_bytes
  image-back m =
      let n : ℕ = nodes s in
      let k : ℕ = relations s in
      let (t, u, v) = all3 (eqb (nodes_offset s) chart_header) (eqb (relations_offset s) (node_at n)) (eqb (length s) (relation_at n k)) (not-false _ m) in
      let l : length s ≡ relation_at n k = eqb-true _ _ v in
      let o : nodes_offset s ≡ chart_header = eqb-true _ _ t in
      let q : relations_offset s ≡ node_at n = eqb-true _ _ u in
      let h : s ≡ packed bytes16 (n ∷ (k ∷ (chart_header ∷ (node_at n ∷ [])))) ++ drop chart_header s =
      parts-behind s 0 2 4 ∙ rw (cut-header (omega arith), o, q) in
      let i : drop chart_header s ≡ flat n (λ i. node_bytes (node_from s (node_at i))) ++ drop (node_at n) s =
      parts-behind s chart_header node_size n ∙ rw (flat-same n _ (λ i. node_bytes (node_from s (node_at i))) (λ i h. cut-node (node_at i) (omega arith))) in
      let j : drop (node_at n) s ≡ flat k (λ i. relation_bytes (relation_from s (relation_at n i))) =
      parts-behind s (node_at n) relation_size k ∙ rw (
        flat-same k _ (λ i. relation_bytes (relation_from s (relation_at n i))) (λ i h. cut-relation (relation_at n i) (omega arith)),
        drop_of_length-le s {i = relation_at n k} (omega arith),
        append-nil,
      ) in
      rw (
        length-tabulate n (λ i. node_from s (node_at i)),
        length-tabulate k (λ i. relation_from s (relation_at n i)),
        packed-table node_bytes no_node n (λ i. node_from s (node_at i)),
        packed-table relation_bytes no_relation k (λ i. relation_from s (relation_at n i)),
        ← j,
        ← i,
      ) (sym h)
