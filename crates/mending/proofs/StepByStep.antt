-- The five steps make of an image what `OfImage` says of it, record by record. Assumes nothing.
use Prim.Native.Nat.{ℕ, ◌+◌, ◌*◌, ◌/◌, ◌%◌, ◌<◌}
use Rattle.std.specs.Prelude.{◌≡◌, ◌&&◌, List, eqb}
use Rattle.std.proofs.Math.Path.{refl, ap}
use Rattle.std.proofs.Common.{sym, ◌∙◌, append-nil, arith}
use Rattle.std.proofs.Math.Bool.{not, cond, and-false}
use Rattle.std.proofs.Math.Dec.{leb}
use Rattle.std.proofs.Math.ListN.{length}
use borrow.Author.Tests.{lt-leb, eq-eqb, ne_eqb, eqb-true, eqb-false, not-true}
use Rattle.paper.specs.Limits.{no_parent, flags_byte, mend_parent, mend_flags, mend_loop, mend_group}
use Rattle.general.specs.Cases.{cases, both, same_test}
use Rattle.general.specs.Below.{tally, tally-same}
use Rattle.general.specs.Tables.{length-tabulate, get_or-tabulate}
use Rattle.general.specs.Lists.{flat, flat-same, packed, packed-flat}
use Rattle.general.specs.Packing.{packed-flat-parts}
use Rattle.records.specs.Image.{nodes, relations, relation_at, parent_of, flags_of, from_of, to_of, kind_of, bad_relation_at, Whole}
use Rattle.mending.specs.Records.{Relation, Records, count, relation_count, node_in, relation_in, no_node, no_relation, relation_from, records_of, node_bytes, relation_bytes, chart_image}
use Rattle.mending.specs.Mending.{alter, differs, alteration_at, alterations, missing, parent_mended, state_flags, known_flags, flags_mended, cut_by, lowest_of_loop}
use Rattle.mending.specs.Mending.{loop_mended, group_mended, bad_number, kept_at, dropped_at, step5, drops, parents_mended, nodes_known, loops_mended, groups_mended, mended, changes}
use Rattle.mending.specs.Images.{image-length}
use Rattle.mending.specs.Altering.{alter-node, counted4, kept-count}
use Rattle.mending.specs.OfImage.{missing_at, existing_parent, unknown_at, last_parent, group_left, flagged_at, last_flags, node, node_part, relation_part, relations_left}
use Rattle.mending.specs.OfImage.{mended_runs, entry_at1, entry_at2, entry_at3, entry_at4, entry_at5, entries}
use Rattle.mending.specs.StepByStep.{lowest-has, r0, few, count0, count1, count2, count3, node0, node1, node2, lowest2, group3}

module _ (s : List ℕ) {n k : ℕ} (w : Whole s n k) where
  count4 : count (groups_mended (r0 s w)) ≡ nodes s
  count4 = counted4 (r0 s w) ∙ count0 s w

  node3 : (i : ℕ) → i < nodes s → node_in (loops_mended (r0 s w)) i ≡ node s (last_parent s i) (known_flags (flags_of s i))
  unfolding cut_by last_parent existing_parent
  node3 i h =
      alter-node (loop_mended (nodes_known (r0 s w))) (nodes_known (r0 s w)) i (rw (count2 s w) h) ∙ rw (lowest2 s w i, node2 s w i h)
      (cases (missing_at s i) (λ t. cases (lowest_of_loop s i) (λ u. rw (t, u)) (λ u. rw (t, u))) (λ t. cases (lowest_of_loop s i) (λ u. rw (t, u)) (λ u. rw (t, u))))

  state-left : (f : ℕ) → state_flags * ((f % state_flags + flags_byte * (f / flags_byte)) / state_flags) ≡ flags_byte * (f / flags_byte)
  state-left f = omega arith

  node4 : (i : ℕ) → i < nodes s → node_in (groups_mended (r0 s w)) i ≡ node s (last_parent s i) (last_flags s i)
  unfolding group_mended last_flags known_flags
  node4 i h =
      alter-node (group_mended (loops_mended (r0 s w))) (loops_mended (r0 s w)) i (rw (count3 s w) h) ∙ rw (group3 s w i, node3 i h)
      (cases (group_left s i) (λ t. rw (t, state-left (flags_of s i))) (λ t. rw t))

  -- ---- the relations

  relations0 : relation_count (r0 s w) ≡ relations s
  unfolding records_of
  relations0 = length-tabulate (relations s) (λ k. relation_from s (relation_at (nodes s) k))

  abbrev relation_of : ℕ → Relation
  relation_of k = record { from = from_of s k; to = to_of s k; kind = kind_of s k }

  relation4 : (k : ℕ) → k < relations s → relation_in (groups_mended (r0 s w)) k ≡ relation_of k
  unfolding records_of relation_from alter
  relation4 k h = get_or-tabulate (relations s) (λ k. relation_from s (relation_at (nodes s) k)) k no_relation h

  relations4 : relation_count (groups_mended (r0 s w)) ≡ relations s
  unfolding alter
  relations4 = relations0

  bad4 : (k : ℕ) → k < relations s → bad_number (count (groups_mended (r0 s w))) (relation_in (groups_mended (r0 s w)) k) ≡ bad_relation_at s k
  unfolding bad_number bad_relation_at
  bad4 k h = rw (count4, relation4 k h)

  -- ---- the chart

  count_left : length (flat (relations s) (kept_at (groups_mended (r0 s w)))) ≡ tally (relations s) (λ k. not (bad_relation_at s k))
  count_left =
      kept-count (groups_mended (r0 s w)) (relations s)
      ∙ tally-same (relations s) (λ k. not (bad_number (count (groups_mended (r0 s w))) (relation_in (groups_mended (r0 s w)) k))) (λ k. not (bad_relation_at s k)) (λ k h. ap not (bad4 k h))

  part-node : (i : ℕ) → i < nodes s → node_bytes (node_in (groups_mended (r0 s w)) i) ≡ node_part s i
  unfolding node_part
  part-node i h = ap node_bytes (node4 i h)

  part-relation : (k : ℕ) → k < relations s → packed relation_bytes (kept_at (groups_mended (r0 s w)) k) ≡ relation_part s k
  unfolding kept_at relation_part packed
  part-relation k h =
      rw (bad4 k h, relation4 k h) (cases (bad_relation_at s k) (λ t. rw t) (λ t. rw t (append-nil (relation_bytes (relation_of k)))))

  -- the bytes of the mended chart, run by run
  pub mended-runs : chart_image (mended (r0 s w)) ≡ mended_runs s
  unfolding chart_image mended step5 mended_runs relations_left
  mended-runs =
      let r4 : Records = groups_mended (r0 s w) in
      rw (
        count4,
        relations4,
        count_left,
        packed-flat node_bytes no_node r4.nodes,
        count4,
        packed-flat-parts relation_bytes (relations s) (kept_at r4),
        flat-same (nodes s) (λ i. node_bytes (node_in r4 i)) (node_part s) part-node,
        flat-same (relations s) (λ k. packed relation_bytes (kept_at r4 k)) (relation_part s) part-relation,
      )

  -- ---- the list

  said1 : (i : ℕ) → i < nodes s → alteration_at mend_parent (parent_mended (r0 s w)) (r0 s w) i ≡ entry_at1 s i
  unfolding alteration_at entry_at1 parent_mended missing missing_at differs
  said1 i h =
      rw (count0 s w, node0 s w i h) (cases (not (eqb (parent_of s i) no_parent) && leb (nodes s) (parent_of s i))
      (λ t. let n = eqb-false (parent_of s i) no_parent (not-true _ (both (not (eqb (parent_of s i) no_parent)) (leb (nodes s) (parent_of s i)) t).0) in
      rw (t, ne_eqb no_parent (parent_of s i) (λ e. n (sym e))))
      (λ t. rw (t, eq-eqb (parent_of s i) (parent_of s i) refl, eq-eqb (flags_of s i) (flags_of s i) refl)))

  said2 : (i : ℕ) → i < nodes s → alteration_at mend_flags flags_mended (parents_mended (r0 s w)) i ≡ entry_at2 s i
  unfolding alteration_at entry_at2 flags_mended unknown_at differs
  said2 i h = rw (node1 s w i h, eq-eqb (existing_parent s i) (existing_parent s i) refl)

  said3 : (i : ℕ) → i < nodes s → alteration_at mend_loop (loop_mended (nodes_known (r0 s w))) (nodes_known (r0 s w)) i ≡ entry_at3 s i
  unfolding alteration_at entry_at3 cut_by differs existing_parent missing_at
  said3 i h =
      rw (lowest2 s w i, node2 s w i h) (cases (lowest_of_loop s i)
      (λ t. let p = lowest-has s i t in let f = few s w in
      rw (t, lt-leb (nodes s) (parent_of s i) p, and-false (not (eqb (parent_of s i) no_parent)), ne_eqb no_parent (parent_of s i) (λ e. omega arith)))
      (λ t. let p : ℕ = cond (missing_at s i) no_parent (parent_of s i) in let f : ℕ = known_flags (flags_of s i) in rw (t, eq-eqb p p refl, eq-eqb f f refl)))

  group-said : (f : ℕ) → eqb (state_flags * (known_flags f / state_flags)) (known_flags f) ≡ eqb (f % state_flags) 0
  unfolding known_flags
  group-said f =
      let x : ℕ = known_flags f in
      same_test (eqb (state_flags * (x / state_flags)) x) (eqb (f % state_flags) 0)
      (λ t. let e = eqb-true (state_flags * (x / state_flags)) x t in eq-eqb (f % state_flags) 0 (omega arith))
      (λ t. let e = eqb-true (f % state_flags) 0 t in eq-eqb (state_flags * (x / state_flags)) x (omega arith))

  said4 : (i : ℕ) → i < nodes s → alteration_at mend_group (group_mended (loops_mended (r0 s w))) (loops_mended (r0 s w)) i ≡ entry_at4 s i
  unfolding alteration_at entry_at4 group_mended flagged_at differs
  said4 i h =
      rw (group3 s w i, node3 i h) (cases (group_left s i)
      (λ t. rw (t, eq-eqb (last_parent s i) (last_parent s i) refl, group-said (flags_of s i)))
      (λ t. rw (t, eq-eqb (last_parent s i) (last_parent s i) refl, eq-eqb (known_flags (flags_of s i)) (known_flags (flags_of s i)) refl)))

  said5 : (k : ℕ) → k < relations s → dropped_at (groups_mended (r0 s w)) k ≡ entry_at5 s k
  unfolding dropped_at entry_at5
  said5 k h = rw (bad4 k h, relation4 k h)

  -- the changes, entry by entry
  pub entries-so : changes (r0 s w) ≡ entries s
  unfolding changes alterations drops entries
  entries-so =
      rw (
        count0 s w,
        count1 s w,
        count2 s w,
        count3 s w,
        relations4,
        flat-same (nodes s) (alteration_at mend_parent (parent_mended (r0 s w)) (r0 s w)) (entry_at1 s) said1,
        flat-same (nodes s) (alteration_at mend_flags flags_mended (parents_mended (r0 s w))) (entry_at2 s) said2,
        flat-same (nodes s) (alteration_at mend_loop (loop_mended (nodes_known (r0 s w))) (nodes_known (r0 s w))) (entry_at3 s) said3,
        flat-same (nodes s) (alteration_at mend_group (group_mended (loops_mended (r0 s w))) (loops_mended (r0 s w))) (entry_at4 s) said4,
        flat-same (relations s) (dropped_at (groups_mended (r0 s w))) (entry_at5 s) said5,
      )

  -- "Length is exactly 8 + 4N + 6K."
  pub length_runs : length (mended_runs s) ≡ relation_at (nodes s) (relations_left s)
  unfolding mended step5 relations_left
  length_runs = ap length (sym mended-runs) ∙ image-length (mended (r0 s w)) ∙ rw (count4, relations4, count_left)
