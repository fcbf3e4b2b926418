-- What mending leaves is sound, and what is sound it leaves as it is, with an empty list. Assumes nothing.
use Prim.Native.Nat.{ℕ, ◌+◌, ◌*◌, ◌/◌, ◌%◌, ◌≤◌, ◌<◌}
use Rattle.std.specs.Prelude.{◌≡◌, Bool, false}
use Rattle.std.proofs.Math.Path.{refl, sym}
use Rattle.std.proofs.Common.{◌∙◌}
use Rattle.std.proofs.Math.Bool.{true}
use mathlib.Core.List.{[]}
use native.Mathlib.Omega.{arith}
use Rattle.paper.specs.Limits.{no_parent, flags_byte}
use Rattle.general.specs.Cases.{cases, not_so}
use Rattle.general.specs.Lists.{All, all-flat, all-at}
use Rattle.nesting.specs.Nesting.{on_loop_at, is_group, nested-so}
use Rattle.mending.specs.Records.{Node, Records, count, relation_count, node_in, relation_in, no_relation, chart_image}
use Rattle.mending.specs.Mending.{without_parent, missing, parent_mended, state_flags, known_flags, flags_mended, cut_by, lowest_of_loop, loop_mended}
use Rattle.mending.specs.Mending.{group_mended, bad_number, kept_at, step5, parents_mended, nodes_known, loops_mended, groups_mended, mended, changes}
use Rattle.mending.specs.Altering.{alter-node, counted1, counted2, counted3, counted4, parents-stay, nodes-stay, nested_same, group-same}
use Rattle.mending.proofs.Cutting.{cuts-so}
use Rattle.mending.specs.Sound.{Sound, sound-kept, sound-unlisted, Right, cuts-end}

module _ (n : ℕ) where
  none-missing : (x : Node) → missing n (without_parent x) ≡ false
  unfolding missing
  none-missing x = refl

  right1 : (r : Records) (i : ℕ) (x : Node) → n ≡ count r → missing n (parent_mended r i x) ≡ false
  unfolding parent_mended
  right1 r i x e = rw (← e) (cases (missing n x) (λ t. rw t (none-missing x)) (λ t. rw (t, t)))

  right2 : (i : ℕ) (x : Node) → missing n x ≡ false → Right n (flags_mended i x)
  unfolding missing flags_mended known_flags
  right2 i x h = let f : ℕ = x.flags in record { exists = h; known = omega arith }

  right3 : (m : ℕ → Bool) (i : ℕ) (x : Node) → Right n x → Right n (cut_by m i x)
  unfolding cut_by
  right3 m i x h = cases (m i) (λ t. rw t (record { exists = none-missing x; known = h.known })) (λ t. rw t h)

  right4 : (r : Records) (i : ℕ) (x : Node) → Right n x → Right n (group_mended r i x)
  unfolding group_mended missing known_flags
  right4 r i x h =
      let f : ℕ = x.flags in
      let k : f % state_flags + flags_byte * (f / flags_byte) ≡ f = h.known in
      let e : state_flags * (f / state_flags) ≡ flags_byte * (f / flags_byte) = omega arith in
      cases (is_group (chart_image r) i) (λ t. rw t (record { exists = h.exists; known = rw e (omega arith) })) (λ t. rw t h)

module _ (r : Records) (few : count r ≤ no_parent) where
  right_so : (i : ℕ) → i < count r → Right (count r) (node_in (groups_mended r) i)
  right_so i h =
      rw (alter-node (group_mended (loops_mended r)) (loops_mended r) i (rw (counted3 r) h)) (right4 (count r) (loops_mended r) i (node_in (loops_mended r) i)
      (rw (alter-node (loop_mended (nodes_known r)) (nodes_known r) i (rw (counted2 r) h))
      (right3 (count r) (lowest_of_loop (chart_image (nodes_known r))) i (node_in (nodes_known r) i)
      (rw (alter-node flags_mended (parents_mended r) i (rw (counted1 r) h)) (right2 (count r) i (node_in (parents_mended r) i)
      (rw (alter-node (parent_mended r) r i h) (right1 (count r) r i (node_in r i) refl)))))))

  straight-so : (i : ℕ) → on_loop_at (chart_image (mended r)) i ≡ false
  unfolding on_loop_at
  straight-so i =
      nested_same (chart_image (mended r)) (chart_image (loops_mended r)) (nodes-stay r) (parents-stay r) i i
      ∙ not_so (λ t. cuts-end (cuts-so (nodes_known r) (rw (counted2 r) few)) i ((nested-so (chart_image (loops_mended r)) i i).0 t))

  groups-so : (i : ℕ) → i < count r → is_group (chart_image (mended r)) i ≡ true → (node_in (groups_mended r) i).flags % state_flags ≡ 0
  unfolding group_mended
  groups-so i h t =
      let g : is_group (chart_image (loops_mended r)) i ≡ true = sym (group-same (chart_image (mended r)) (chart_image (loops_mended r)) (nodes-stay r) (parents-stay r) i) ∙ t in
      let f : ℕ = (node_in (loops_mended r) i).flags in
      rw (alter-node (group_mended (loops_mended r)) (loops_mended r) i (rw (counted3 r) h), g) (omega arith)

  relations-so : All (λ x. bad_number (count r) x ≡ false) (mended r).relations
  unfolding mended step5 kept_at
  relations-so =
      all-flat (λ x. bad_number (count r) x ≡ false) (relation_count (groups_mended r)) (kept_at (groups_mended r))
      (λ k h. rw (counted4 r) (cases (bad_number (count r) (relation_in (groups_mended r) k)) (λ t. rw t tt) (λ t. rw t (t, tt))))

  pub mended-sound : Sound (mended r)
  unfolding mended step5
  mended-sound =
      record {
        parents = λ i h. rw (counted4 r) (right_so i (rw (counted4 r) at h)).exists;
        flags = λ i h. (right_so i (rw (counted4 r) at h)).known;
        straight = straight-so;
        groups = λ i h. groups-so i (rw (counted4 r) at h);
        relations = λ k h. rw (counted4 r) (all-at (λ x. bad_number (count r) x ≡ false) no_relation (mended r).relations relations-so k h);
      }

  -- "mending the result changes nothing"
  pub mended-twice : mended (mended r) ≡ mended r
  mended-twice = sound-kept (mended r) mended-sound

  pub mended-unlisted : changes (mended r) ≡ []
  mended-unlisted = sound-unlisted (mended r) mended-sound
