-- The reader accepts exactly the images of sound records, within its limits: so it accepts what mending writes, and mending leaves what it accepts. Assumes nothing.
use Rattle.std.specs.Prelude.{ℕ, ◌%◌, ◌≤◌, ◌<◌, ◌≡◌, refl, Bool, true, false, List, [], eqb, leb, ltb}
use Rattle.std.proofs.Math.Path.{sym, ap}
use Rattle.std.proofs.Common.{subst, ◌∙◌, inl, inr}
use Rattle.std.proofs.Math.Bool.{not}
use native.Mathlib.Omega.{arith}
use Rattle.std.proofs.Math.ListN.{length}
use borrow.Author.Tests.{ltb-true, ltb-false, le-leb, leb-true, ne_eqb, eqb-true, eqb-false, not-true}
use Rattle.paper.specs.Limits.{max_nodes, max_relations, max_events, no_parent, max_flags, flags_byte}
use Rattle.general.specs.Cases.{contra, cases, both, not_so}
use Rattle.paper.specs.Answers.{granted}
use Rattle.general.specs.Below.{tally-le}
use Rattle.general.specs.Tables.{length-tabulate}
use Rattle.general.specs.Lists.{All}
use Rattle.records.specs.Image.{nodes, relations, node_at, relation_at, parent_of, flags_of, state_of, from_of, to_of, kind_of, bad_relation_at}
use Rattle.nesting.specs.Nesting.{OnLoop, on_loop_at, is_group, event_count, nested-so}
use Rattle.chart.specs.Conditions.{Never, BadNode, FlaggedGroup, BadRelation, group-so, relation-bad, laid-right}
use Rattle.chart.specs.Reading.{reading}
use Rattle.chart.specs.ReadingGives.{granted-right}
use Rattle.chart.specs.Outcome.{HeaderRight, NodesRight, AllRight, fine, judged}
use Rattle.mending.specs.Records.{Relation, Records, node_from, count, relation_count, node_in, relation_in, relation_from, records_of, chart_image}
use Rattle.mending.specs.Mending.{missing, state_flags, known_flags, bad_number, step5, groups_mended, mended, changes}
use Rattle.mending.specs.Images.{image-nodes, image-relations, image-offset, image-offset-2, image-length, image-parent, image-flags, image-relation}
use Rattle.mending.specs.Images.{records-back, image-back, Byte}
use Rattle.mending.specs.Cutting.{start-in}
use Rattle.mending.specs.Altering.{counted4, relations-stay, kept-count}
use Rattle.mending.specs.Sound.{Sound, sound-kept, sound-unlisted}
use Rattle.mending.proofs.Sound.{mended-sound, mended-twice, mended-unlisted}
use Rattle.mending.specs.Undoing.{undo}
use Rattle.mending.proofs.Undoing.{undone-all}
use Rattle.mend.specs.Calling.{mended_image, changes_of}
use Rattle.mend.specs.Table.{Mendable}

never_both : {b : Bool} → b ≡ true → b ≡ false → ⊥
never_both p q = contra p q

-- the flags that are known have no bits from 8 to 128
known-state : (f : ℕ) → known_flags f ≡ f → f % flags_byte ≡ f % state_flags
unfolding known_flags
known-state f e = omega arith

state-known : (f : ℕ) → f % flags_byte ≤ max_flags → known_flags f ≡ f
unfolding known_flags
state-known f h = omega arith

module _ (r : Records) where
  abbrev image : List ℕ
  image = chart_image r

  relation-there : (k : ℕ) → k < relation_count r → relation_from image (relation_at (nodes image) k) ≡ relation_in r k
  relation-there k h = rw (image-nodes r) (image-relation r k h)

  from-there : (k : ℕ) → k < relation_count r → from_of image k ≡ (relation_in r k).from
  unfolding relation_from
  from-there k h = ap (λ (x : Relation). x.from) (relation-there k h)

  to-there : (k : ℕ) → k < relation_count r → to_of image k ≡ (relation_in r k).to
  unfolding relation_from
  to-there k h = ap (λ (x : Relation). x.to) (relation-there k h)

  kind-there : (k : ℕ) → k < relation_count r → kind_of image k ≡ (relation_in r k).kind
  unfolding relation_from
  kind-there k h = ap (λ (x : Relation). x.kind) (relation-there k h)

  bad-there : (k : ℕ) → k < relation_count r → bad_relation_at image k ≡ bad_number (count r) (relation_in r k)
  unfolding bad_relation_at bad_number
  bad-there k h = rw (from-there k h, to-there k h, kind-there k h, image-nodes r)

  -- ---- sound records, within the limits

  pub header-right : 1 ≤ count r → count r ≤ max_nodes → relation_count r ≤ max_relations → HeaderRight image
  header-right s f g =
      let n : nodes image ≡ count r = image-nodes r in
      let k : relations image ≡ relation_count r = image-relations r in
      let l : length image ≡ relation_at (count r) (relation_count r) = image-length r in
      record {
        long = omega arith;
        range = record { some = omega arith; few = omega arith; few_relations = omega arith };
        laid = record { nodes_here = image-offset r; relations_here = rw n (image-offset-2 r); exact = rw (n, k) l };
      }

  module _ (s : Sound r) where
    no-bad-node : Never (nodes image) (BadNode image)
    unfolding missing
    no-bad-node p h (inl t) =
        let l : p < count r = rw (image-nodes r) at h in
        let q : parent_of image p ≡ (node_in r p).parent = image-parent r p l in
        let n : nodes image ≡ count r = image-nodes r in
        let b = t.1 in
        never_both (rw (ne_eqb (node_in r p).parent no_parent (λ e. t.0 (q ∙ e)), le-leb (count r) (node_in r p).parent (omega arith))) (s.parents p l)
    no-bad-node p h (inr t) =
        let l : p < count r = rw (image-nodes r) at h in
        let q : flags_of image p ≡ (node_in r p).flags = image-flags r p l in
        let e = known-state (node_in r p).flags (s.flags p l) in
        let m : max_flags < (node_in r p).flags % flags_byte = rw q at t in
        omega arith

    no_loop : Never (nodes image) (OnLoop image)
    unfolding on_loop_at
    no_loop p h l = never_both ((nested-so image p p).1 l) (s.straight p)

    no-flagged-group : Never (nodes image) (FlaggedGroup image)
    no-flagged-group p h (g, n) =
        let l : p < count r = rw (image-nodes r) at h in
        let q : flags_of image p ≡ (node_in r p).flags = image-flags r p l in
        let z = s.groups p l ((group-so image p).1 g) in
        let e = known-state (node_in r p).flags (s.flags p l) in
        n (ap (λ (x : ℕ). x % flags_byte) q ∙ e ∙ z)

    no-bad-relation : Never (relations image) (BadRelation image)
    no-bad-relation k h b =
        let l : k < relation_count r = rw (image-relations r) at h in
        never_both (sym (bad-there k l) ∙ (relation-bad image k).1 b) (s.relations k l)

    pub sound-right : 1 ≤ count r → count r ≤ max_nodes → relation_count r ≤ max_relations → event_count image ≤ max_events → AllRight image
    sound-right a b c e =
        record {
          nodes_right = record { header = header-right a b c; records = no-bad-node; straight = no_loop; plain = no-flagged-group; few = e };
          records = no-bad-relation;
        }

  -- ---- and an accepted image is one of sound records

  module _ (a : AllRight image) where
    abbrev n : NodesRight image
    n = a.nodes_right

    within : (i : ℕ) → i < count r → i < nodes image
    within i h = rw (image-nodes r) h

    right-parents : (i : ℕ) → i < count r → missing (count r) (node_in r i) ≡ false
    unfolding missing
    right-parents i h =
        not_so (λ t.
        let (p, q) = both (not (eqb (node_in r i).parent no_parent)) (leb (count r) (node_in r i).parent) t in
        let e : parent_of image i ≡ (node_in r i).parent = image-parent r i h in
        let m : nodes image ≡ count r = image-nodes r in
        let b = leb-true (count r) (node_in r i).parent q in
        n.records i (within i h) (inl (λ z. eqb-false (node_in r i).parent no_parent (not-true _ p) (sym e ∙ z), omega arith)))

    right-flags : (i : ℕ) → i < count r → known_flags (node_in r i).flags ≡ (node_in r i).flags
    right-flags i h =
        let e : flags_of image i ≡ (node_in r i).flags = image-flags r i h in
        state-known (node_in r i).flags (cases (ltb max_flags (state_of image i))
        (λ t. absurd (n.records i (within i h) (inr (ltb-true max_flags (state_of image i) t))))
        (λ t. rw e at (ltb-false max_flags (state_of image i) t)))

    right-straight : (i : ℕ) → on_loop_at image i ≡ false
    unfolding on_loop_at
    right-straight i = not_so (λ t. let w = (nested-so image i i).0 t in n.straight i (start-in image w) w)

    right-groups : (i : ℕ) → i < count r → is_group image i ≡ true → (node_in r i).flags % state_flags ≡ 0
    right-groups i h t =
        let e : flags_of image i ≡ (node_in r i).flags = image-flags r i h in
        let k = known-state (node_in r i).flags (right-flags i h) in
        sym k ∙ cases (eqb ((node_in r i).flags % flags_byte) 0) (λ u. eqb-true _ 0 u)
        (λ u. absurd (n.plain i (within i h) ((group-so image i).0 t, λ z. eqb-false ((node_in r i).flags % flags_byte) 0 u (ap (λ (x : ℕ). x % flags_byte) (sym e) ∙ z))))

    right-relations : (k : ℕ) → k < relation_count r → bad_number (count r) (relation_in r k) ≡ false
    right-relations k h = not_so (λ t. a.records k (rw (image-relations r) h) ((relation-bad image k).0 (bad-there k h ∙ t)))

    pub right-sound : Sound r
    right-sound = record { parents = right-parents; flags = right-flags; straight = right-straight; groups = right-groups; relations = right-relations }

-- ---- what a call writes, and what it is given

module _ (s : List ℕ) where
  counted : count (records_of s) ≡ nodes s
  unfolding records_of
  counted = length-tabulate (nodes s) (λ i. node_from s (node_at i))

  related : relation_count (records_of s) ≡ relations s
  unfolding records_of
  related = length-tabulate (relations s) (λ k. relation_from s (relation_at (nodes s) k))

  nodes-left : count (mended (records_of s)) ≡ nodes s
  unfolding mended step5
  nodes-left = counted4 (records_of s) ∙ counted

  relations-fewer : relation_count (mended (records_of s)) ≤ relations s
  unfolding mended step5
  relations-fewer =
      let r : Records = groups_mended (records_of s) in
      let e : relation_count r ≡ relations s = ap length (relations-stay (records_of s)) ∙ related in
      let t = tally-le (relation_count r) (λ k. not (bad_number (count r) (relation_in r k))) in
      rw (kept-count r (relation_count r)) (omega arith)

  -- "write one that is accepted"
  pub mended-right : Mendable s → AllRight (mended_image s)
  mended-right m =
      let n : count (mended (records_of s)) ≡ nodes s = nodes-left in
      let c : count (records_of s) ≡ nodes s = counted in
      let k : relation_count (mended (records_of s)) ≤ relations s = relations-fewer in
      let a : 1 ≤ nodes s = m.header.range.some in
      let f : nodes s ≤ max_nodes = m.header.range.few in
      let g : relations s ≤ max_relations = m.header.range.few_relations in
      sound-right (mended (records_of s)) (mended-sound (records_of s) (omega arith)) (omega arith) (omega arith) (omega arith) m.few

  pub mended-accepted : Mendable s → (reading (mended_image s)).answer ≡ granted
  mended-accepted m = (judged (mended_image s) granted).0 (fine (mended-right m) refl)

  -- "An accepted chart comes out with the same bytes and an empty list"
  module _ (b : All Byte s) (a : (reading s).answer.code ≡ 0) where
    accepted-right : AllRight s
    accepted-right = (granted-right s a).0

    pub same_bytes : chart_image (records_of s) ≡ s
    same_bytes = image-back s b ((laid-right s).1 accepted-right.nodes_right.header.laid)

    accepted-sound : Sound (records_of s)
    accepted-sound = right-sound (records_of s) (subst AllRight (sym same_bytes) accepted-right)

    pub accepted-kept : mended_image s ≡ s
    accepted-kept = ap chart_image (sound-kept (records_of s) accepted-sound) ∙ same_bytes

    pub accepted-unlisted : changes_of s ≡ []
    accepted-unlisted = sound-unlisted (records_of s) accepted-sound

  -- "mending the result changes nothing"
  pub twice-kept : nodes s ≤ max_nodes → mended_image (mended_image s) ≡ mended_image s
  twice-kept f =
      let c : count (records_of s) ≡ nodes s = counted in
      ap (λ (r : Records). chart_image (mended r)) (records-back (mended (records_of s))) ∙ ap chart_image (mended-twice (records_of s) (omega arith))

  pub twice-unlisted : nodes s ≤ max_nodes → changes_of (mended_image s) ≡ []
  twice-unlisted f =
      let c : count (records_of s) ≡ nodes s = counted in
      ap changes (records-back (mended (records_of s))) ∙ mended-unlisted (records_of s) (omega arith)

  -- the list undone
  pub undone-image : All Byte s → HeaderRight s → chart_image (undo (changes_of s) (mended (records_of s))) ≡ s
  undone-image b h = ap chart_image (undone-all (records_of s)) ∙ image-back s b ((laid-right s).1 h.laid)
