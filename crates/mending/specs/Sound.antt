-- What mending leaves is sound, and what is sound it leaves as it is, with an empty list. Assumes nothing.
use Prim.Native.Nat.{ℕ, ◌*◌, ◌/◌, ◌%◌, ◌<◌}
use Rattle.std.specs.Prelude.{◌≡◌, false}
use Rattle.std.proofs.Math.Path.{ap}
use Rattle.std.proofs.Common.{◌∙◌}
use Rattle.std.proofs.Math.Bool.{true}
use mathlib.Core.List.{List, [], ◌∷◌}
use native.Mathlib.Omega.{arith}
use Rattle.std.proofs.Math.Seq.{ext_get_or}
use Rattle.paper.specs.Limits.{mend_parent, mend_flags, mend_loop, mend_group}
use Rattle.general.specs.Cases.{cases}
use Rattle.general.specs.Lists.{flat-same, flat-none, each, length-each, get_or-each}
use Rattle.nesting.specs.Nesting.{OnLoop, on_loop_at, is_group}
use Rattle.mending.specs.Records.{Node, Relation, Records, count, relation_count, node_in, relation_in, no_relation, chart_image}
use Rattle.mending.specs.Mending.{with_flags, missing, parent_mended, state_flags, known_flags, flags_mended, cut_by, Cuts, done, cut, lowest_of_loop, loop_mended}
use Rattle.mending.specs.Mending.{group_mended, bad_number, kept_at, dropped_at, step2, step3, step4, step5, drops, parents_mended, nodes_known, loops_mended, groups_mended, mended, changes}
use Rattle.mending.specs.Altering.{alter-none, alterations-none}

-- no record that a step would change
pub record Sound (r : Records) : Type 0 where
  pub parents : (i : ℕ) → i < count r → missing (count r) (node_in r i) ≡ false
  pub flags : (i : ℕ) → i < count r → known_flags (node_in r i).flags ≡ (node_in r i).flags
  pub straight : (i : ℕ) → on_loop_at (chart_image r) i ≡ false
  pub groups : (i : ℕ) → i < count r → is_group (chart_image r) i ≡ true → (node_in r i).flags % state_flags ≡ 0
  pub relations : (k : ℕ) → k < relation_count r → bad_number (count r) (relation_in r k) ≡ false

-- ---- what is sound stays

module _ (r : Records) (s : Sound r) where
  kept1 : (i : ℕ) → i < count r → parent_mended r i (node_in r i) ≡ node_in r i
  unfolding parent_mended
  kept1 i h = rw (s.parents i h)

  kept2 : (i : ℕ) → i < count r → flags_mended i (node_in r i) ≡ node_in r i
  unfolding flags_mended
  kept2 i h = ap (λ (f : ℕ). with_flags f (node_in r i)) (s.flags i h)

  kept3 : (i : ℕ) → i < count r → loop_mended r i (node_in r i) ≡ node_in r i
  unfolding cut_by lowest_of_loop
  kept3 i h = rw (s.straight i)

  kept4 : (i : ℕ) → i < count r → group_mended r i (node_in r i) ≡ node_in r i
  unfolding group_mended
  kept4 i h =
      cases (is_group (chart_image r) i)
      (λ t.
      let z = s.groups i h t in
      let e : state_flags * ((node_in r i).flags / state_flags) ≡ (node_in r i).flags = omega arith in
      rw t (ap (λ (f : ℕ). with_flags f (node_in r i)) e))
      (λ t. rw t)

  kept5 : step5 r ≡ r
  unfolding step5 kept_at
  kept5 =
      ap (λ (l : List Relation). record { nodes = r.nodes; relations = l })
      (flat-same (relation_count r) (kept_at r) (λ k. relation_in r k ∷ []) (λ k h. rw (s.relations k h)) ∙ each_in)
    where
      each_in : each (relation_count r) (relation_in r) ≡ r.relations
      each_in = ext_get_or no_relation (each (relation_count r) (relation_in r)) r.relations (length-each (relation_count r) (relation_in r))
          (λ i h. get_or-each (relation_count r) (relation_in r) i no_relation (rw (length-each (relation_count r) (relation_in r)) at h))

  unchanged1 : parents_mended r ≡ r
  unchanged1 = alter-none (parent_mended r) r kept1

  unchanged2 : nodes_known r ≡ r
  unchanged2 = ap step2 unchanged1 ∙ alter-none flags_mended r kept2

  unchanged3 : loops_mended r ≡ r
  unchanged3 = ap step3 unchanged2 ∙ alter-none (loop_mended r) r kept3

  unchanged4 : groups_mended r ≡ r
  unchanged4 = ap step4 unchanged3 ∙ alter-none (group_mended r) r kept4

  pub sound-kept : mended r ≡ r
  unfolding mended
  sound-kept = ap step5 unchanged4 ∙ kept5

  -- "and an empty list"
  pub sound-unlisted : changes r ≡ []
  unfolding changes drops dropped_at
  sound-unlisted =
      rw (
        unchanged4,
        unchanged3,
        unchanged2,
        unchanged1,
        alterations-none (parent_mended r) r mend_parent kept1,
        alterations-none flags_mended r mend_flags kept2,
        alterations-none (loop_mended r) r mend_loop kept3,
        alterations-none (group_mended r) r mend_group kept4,
      )
      (flat-none (relation_count r) (dropped_at r) (λ k h. rw (s.relations k h)))

-- ---- what mending leaves is sound

-- a node's record as steps 1 and 2 leave it
pub record Right (n : ℕ) (x : Node) : Type 0 where
  pub exists : missing n x ≡ false
  pub known : known_flags x.flags ≡ x.flags

-- the loops end
pub cuts-end : {r s : Records} {l : List ℕ} → Cuts r l s → (i : ℕ) → OnLoop (chart_image s) i → ⊥
cuts-end (done n) = n
cuts-end (cut h c) = cuts-end c
