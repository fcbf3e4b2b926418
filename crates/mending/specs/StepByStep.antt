-- The five steps make of an image what `OfImage` says of it, record by record. Assumes nothing.
use Prim.Native.Nat.{ℕ, ◌≤◌, ◌<◌}
use Rattle.std.specs.Prelude.{◌≡◌, true, ◌&&◌, List, eqb, ltb}
use Rattle.std.proofs.Math.Path.{refl}
use Rattle.std.proofs.Common.{◌∙◌, arith}
use Rattle.std.proofs.Math.Bool.{not}
use Rattle.std.proofs.Math.Dec.{leb}
use Rattle.std.proofs.Math.ListN.{length}
use borrow.Author.Tests.{ltb-true, leb-true, ne_eqb}
use Rattle.paper.specs.Limits.{max_nodes, no_parent, change_size}
use Rattle.general.specs.Cases.{cases, both}
use Rattle.general.specs.Below.{some_same, tally, tally-same}
use Rattle.general.specs.Tables.{length-tabulate, get_or-tabulate}
use Rattle.general.specs.Lists.{packed}
use Rattle.closure.specs.Closure.{Way, hop, via}
use Rattle.wire.specs.Wire.{bytes16}
use Rattle.records.specs.Image.{nodes, node_at, parent_of, flags_of, Whole}
use Rattle.nesting.specs.Nesting.{parent, nested, on_loop_at, is_group, event_count, nested-so}
use Rattle.nesting.specs.Climbing.{parent_is}
use Rattle.mending.specs.Records.{Records, count, node_in, no_node, node_from, records_of, chart_image}
use Rattle.mending.specs.Mending.{Change, change_bytes, missing, parent_mended, known_flags, flags_mended, lowest_of_loop}
use Rattle.mending.specs.Mending.{parents_mended, nodes_known, loops_mended, mended}
use Rattle.mending.specs.Images.{image-nodes}
use Rattle.mending.specs.Altering.{alter-node, counted1, counted2, counted3, parents-stay, nodes-stay, parent-of, lowest-same, group-same}
use Rattle.mending.specs.Cutting.{parents-cut}
use Rattle.mending.specs.OfImage.{missing_at, existing_parent, group_left, node}

-- a node on a loop has a parent
pub lowest-has : (s : List ℕ) (i : ℕ) → lowest_of_loop s i ≡ true → parent_of s i < nodes s
unfolding lowest_of_loop on_loop_at
lowest-has s i h = go ((nested-so s i i).0 (both (nested s i i) _ h).0)
  where
    go : {a b : ℕ} → Way (parent s) a b → parent_of s a < nodes s
    go (hop {a} {b} e) = let t = parent_is s a b e in let q = t.2 in let l = t.1 in omega arith
    go (via {a} {c} {b} e w) = let t = parent_is s a c e in let q = t.2 in let l = t.1 in omega arith

module _ (s : List ℕ) {n k : ℕ} (w : Whole s n k) where
  abbrev pub r0 : Records
  r0 = records_of s

  pub few : nodes s ≤ max_nodes
  few = let e = w.nodes in let f = w.few in omega arith

  pub count0 : count r0 ≡ nodes s
  unfolding records_of
  count0 = length-tabulate (nodes s) (λ i. node_from s (node_at i))

  pub count1 : count (parents_mended r0) ≡ nodes s
  count1 = counted1 r0 ∙ count0

  pub count2 : count (nodes_known r0) ≡ nodes s
  count2 = counted2 r0 ∙ count0

  pub count3 : count (loops_mended r0) ≡ nodes s
  count3 = counted3 r0 ∙ count0

  pub node0 : (i : ℕ) → i < nodes s → node_in r0 i ≡ node s (parent_of s i) (flags_of s i)
  unfolding records_of node_from
  node0 i h = get_or-tabulate (nodes s) (λ i. node_from s (node_at i)) i no_node h

  pub node1 : (i : ℕ) → i < nodes s → node_in (parents_mended r0) i ≡ node s (existing_parent s i) (flags_of s i)
  unfolding parent_mended missing existing_parent missing_at
  node1 i h =
      alter-node (parent_mended r0) r0 i (rw count0 h) ∙ rw (count0, node0 i h)
      (cases (not (eqb (parent_of s i) no_parent) && leb (nodes s) (parent_of s i)) (λ t. rw t) (λ t. rw t))

  pub node2 : (i : ℕ) → i < nodes s → node_in (nodes_known r0) i ≡ node s (existing_parent s i) (known_flags (flags_of s i))
  unfolding flags_mended
  node2 i h = alter-node flags_mended (parents_mended r0) i (rw count1 h) ∙ rw (node1 i h)

  -- no parent that does not exist is a parent of the image
  parents2 : (a b : ℕ) → parent (chart_image (nodes_known r0)) a b ≡ parent s a b
  unfolding parent existing_parent missing_at
  parents2 a b =
      parent-of (nodes_known r0) a b ∙ rw count2 (cases (ltb a (nodes s))
      (λ t. let h = ltb-true a (nodes s) t in cases (ltb b (nodes s))
      (λ u. let l = ltb-true b (nodes s) u in let f = few in rw (t, u, node2 a h)
      (cases (not (eqb (parent_of s a) no_parent) && leb (nodes s) (parent_of s a))
      (λ v. let m = leb-true (nodes s) (parent_of s a) (both (not (eqb (parent_of s a) no_parent)) (leb (nodes s) (parent_of s a)) v).1 in
      rw (v, ne_eqb no_parent b (λ e. omega arith), ne_eqb (parent_of s a) b (λ e. omega arith)))
      (λ v. rw v)))
      (λ u. rw (t, u))) (λ t. rw t))

  nodes2 : nodes (chart_image (nodes_known r0)) ≡ nodes s
  nodes2 = image-nodes (nodes_known r0) ∙ count2

  pub lowest2 : (i : ℕ) → lowest_of_loop (chart_image (nodes_known r0)) i ≡ lowest_of_loop s i
  lowest2 = lowest-same (chart_image (nodes_known r0)) s nodes2 parents2

  -- the parents that are left
  parents3 : (a b : ℕ) → parent (chart_image (loops_mended r0)) a b ≡ (parent s a b && not (lowest_of_loop s a))
  parents3 a b =
      let f = few in
      let e = count2 in
      parents-cut (nodes_known r0) (omega arith) (lowest_of_loop (chart_image (nodes_known r0))) a b ∙ rw (parents2 a b, lowest2 a)

  pub group3 : (i : ℕ) → is_group (chart_image (loops_mended r0)) i ≡ group_left s i
  unfolding is_group group_left
  group3 i =
      rw (image-nodes (loops_mended r0), count3)
      (some_same (nodes s) (λ a. parent (chart_image (loops_mended r0)) a i) (λ a. parent s a i && not (lowest_of_loop s a)) (λ a h. parents3 a i))

  nodes3 : nodes (chart_image (loops_mended r0)) ≡ nodes s
  nodes3 = image-nodes (loops_mended r0) ∙ count3

  -- the events after mending are the nodes that are groups no more
  pub events-left : event_count (chart_image (mended r0)) ≡ tally (nodes s) (λ i. not (group_left s i))
  events-left =
      rw (nodes-stay r0, nodes3) (tally-same (nodes s) (λ i. not (is_group (chart_image (mended r0)) i)) (λ i. not (group_left s i))
      (λ i h. rw (group-same (chart_image (mended r0)) (chart_image (loops_mended r0)) (nodes-stay r0) (parents-stay r0) i, group3 i)))

pub length-change : (c : Change) → length (change_bytes c) ≡ change_size
unfolding change_bytes packed bytes16
length-change c = refl
