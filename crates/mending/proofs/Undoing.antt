-- The list undone from its last entry to its first gives the damaged records back. Assumes nothing.
use Prim.Native.Nat.{ℕ, zero, suc, ◌≤◌, ◌<◌}
use Rattle.std.specs.Prelude.{◌≡◌, false, cond, eqb, ltb, set}
use Rattle.std.proofs.Math.Path.{refl, ap}
use Rattle.std.proofs.Common.{sym, ◌∙◌, length-set, ext_get_or, get_or-set_same, get_or-set_other}
use mathlib.Core.List.{List, ◌++◌}
use Rattle.std.proofs.Math.Numerals.{add-one}
use native.Mathlib.Omega.{arith}
use Rattle.std.proofs.Math.ListN.{length}
use borrow.Author.Tests.{lt-ltb, le-ltb, eqb-true, eqb-false}
use Rattle.paper.specs.Limits.{mend_parent, mend_flags, mend_loop, mend_group, mend_relation}
use Rattle.general.specs.Cases.{cases}
use Rattle.general.specs.Scan.{ltb-more}
use Rattle.general.specs.Tables.{tabulate, length-tabulate, get_or-tabulate}
use Rattle.general.specs.Lists.{flat}
use Rattle.mending.specs.Records.{Node, Records, count, node_in}
use Rattle.mending.specs.Mending.{Change, node_change, alter, differs, alteration_at, alterations, parent_mended, flags_mended, loop_mended, group_mended}
use Rattle.mending.specs.Mending.{drops, parents_mended, nodes_known, loops_mended, groups_mended, mended, changes}
use Rattle.mending.specs.Altering.{differs-not-same, alter-same, alter-none}
use Rattle.mending.specs.Undoing.{node_back, undone, undo, drops_to, undone-append, drops-append, drops-undone}

-- ---- a step over the nodes

-- one place of a table set
set-table : {A : Type 0} (n j : ℕ) (F G : ℕ → A) (x : A) → j < n → G j ≡ x → ((i : ℕ) → (i ≡ j → ⊥) → F i ≡ G i) → set (tabulate n F) j x ≡ tabulate n G
set-table n j F G x h e o =
    let long : length (tabulate n F) ≡ n = length-tabulate n F in
    let size : length (set (tabulate n F) j x) ≡ n = length-set (tabulate n F) j x ∙ long in
    ext_get_or x (set (tabulate n F) j x) (tabulate n G) (size ∙ sym (length-tabulate n G))
    (λ i l. let m : i < n = omega arith in cases (eqb i j)
    (λ t. rw (eqb-true i j t) (get_or-set_same (tabulate n F) j x x (omega arith) ∙ sym (get_or-tabulate n G j x h ∙ e)))
    (λ t. let d = eqb-false i j t in get_or-set_other (tabulate n F) j i x x d ∙ get_or-tabulate n F i x m ∙ o i d ∙ sym (get_or-tabulate n G i x m)))

module _ (step : ℕ) (node : eqb step mend_relation ≡ false) (f : ℕ → Node → Node) (r : Records) where
  no-drops : (j d : ℕ) → drops_to d (flat j (alteration_at step f r)) ≡ d
  unfolding flat drops_to alteration_at
  no-drops zero d = refl
  no-drops (suc j) d =
      drops-append (flat j (alteration_at step f r)) (alteration_at step f r j) d
      ∙ rw (no-drops j d) (cases (differs (f j (node_in r j)) (node_in r j)) (λ t. rw (t, node)) (λ t. rw t))

  -- the step, on the nodes below j only
  abbrev below : ℕ → ℕ → Node → Node
  below j i x = cond (ltb i j) (f i x) x

  put_back : (j : ℕ) → j < count r → node_back (node_change step j (node_in r j)) (alter (below (suc j)) r) ≡ alter (below j) r
  unfolding node_back alter
  put_back j h =
      ap (λ (l : List Node). record { nodes = l; relations = r.relations })
      (set-table (count r) j (λ i. below (suc j) i (node_in r i)) (λ i. below j i (node_in r i)) (node_in r j) h (rw (le-ltb j j (omega arith)))
      (λ i n. rw (← add-one j, ltb-more i j n)))

  -- the entry of node j undone
  entry-undone : (d j : ℕ) → j < count r → undone d (alteration_at step f r j) (alter (below (suc j)) r) ≡ alter (below j) r
  unfolding undone alteration_at
  entry-undone d j h =
      cases (differs (f j (node_in r j)) (node_in r j))
      (λ t. rw (t, node) (put_back j h))
      (λ t. rw t (alter-same (below (suc j)) r (below j) (λ i l. cases (eqb i j)
      (λ u. let q = eqb-true i j u in rw (q, lt-ltb j (suc j) (omega arith), le-ltb j j (omega arith), differs-not-same _ _ t))
      (λ u. rw (← add-one j, ltb-more i j (eqb-false i j u))))))

  below-undone : (d j : ℕ) → j ≤ count r → undone d (flat j (alteration_at step f r)) (alter (below j) r) ≡ r
  unfolding undone flat
  below-undone d zero h = alter-none (below zero) r (λ i l. rw (le-ltb i zero (omega arith)))
  below-undone d (suc j) h =
      undone-append (flat j (alteration_at step f r)) (alteration_at step f r j) d (alter (below (suc j)) r)
      ∙ rw (no-drops j d, entry-undone d j (omega arith)) (below-undone d j (omega arith))

  -- a step's entries undone
  pub alterations-undone : (l : List Change) (x : Records) → undone 0 l x ≡ alter f r → undone 0 (alterations step f r ++ l) x ≡ r
  unfolding alterations
  alterations-undone l x e =
      undone-append (flat (count r) (alteration_at step f r)) l 0 x ∙ rw (no-drops (count r) 0, e, ← whole) (below-undone 0 (count r) (omega arith))
    where
      whole : alter (below (count r)) r ≡ alter f r
      whole = alter-same (below (count r)) r f (λ i h. rw (lt-ltb i (count r) h))

-- the damaged records come back
pub undone-all : (r : Records) → undo (changes r) (mended r) ≡ r
unfolding changes mended
undone-all r =
    alterations-undone mend_parent refl (parent_mended r) r _ (mended r)
    (alterations-undone mend_flags refl flags_mended (parents_mended r) _ (mended r)
    (alterations-undone mend_loop refl (loop_mended (nodes_known r)) (nodes_known r) _ (mended r)
    (alterations-undone mend_group refl (group_mended (loops_mended r)) (loops_mended r) (drops (groups_mended r)) (mended r) (drops-undone (groups_mended r)))))
