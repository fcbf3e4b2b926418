-- The list undone from its last entry to its first gives the damaged records back. Assumes nothing.
use Prim.Native.Nat.{ℕ, zero, suc, ◌+◌, ◌-◌, ◌≤◌, ◌<◌}
use Rattle.std.specs.Prelude.{◌≡◌, Bool, cond, eqb, set, take}
use Rattle.std.proofs.Math.Path.{refl, ap}
use Rattle.std.proofs.Common.{◌∙◌, length-append}
use mathlib.Core.List.{List, [], ◌∷◌, ◌++◌, append_assoc, append-nil}
use native.Mathlib.Omega.{arith}
use Rattle.std.proofs.Math.ListN.{length, drop, drop_of_length-le}
use Rattle.std.proofs.Math.Seq.{drop-cons, take_at, drop_at}
use Rattle.paper.specs.Limits.{mend_relation}
use Rattle.general.specs.Cases.{cases}
use Rattle.general.specs.Lists.{flat}
use Rattle.mending.specs.Records.{Relation, Records, count, relation_count, relation_in, no_relation}
use Rattle.mending.specs.Mending.{Change, bad_number}
use Rattle.mending.specs.Mending.{kept_at, dropped_at, step5, drops}

-- the node gets the record that the entry shows
unfoldable pub node_back : Change → Records → Records
node_back c r = record { nodes = set r.nodes c.number (record { parent = c.first; flags = c.second }); relations = r.relations }

unfoldable pub put_in : {A : Type 0} → ℕ → A → List A → List A
put_in k x l = take k l ++ (x ∷ drop k l)

-- the relation is put in again where it stood: its number is the one in the old chart, and d relations before it are not back yet
unfoldable pub relation_back : ℕ → Change → Records → Records
relation_back d c r = record { nodes = r.nodes; relations = put_in (c.number - d) (record { from = c.first; to = c.second; kind = c.third }) r.relations }

-- from the last entry to the first, where d relations were dropped before these
unfoldable pub undone : ℕ → List Change → Records → Records
undone d [] r = r
undone d (c ∷ l) r = cond (eqb c.step mend_relation) (relation_back d c (undone (suc d) l r)) (node_back c (undone d l r))

abbrev pub undo : List Change → Records → Records
undo l r = undone 0 l r

-- ---- a list behind a list

-- the relations that a list drops, and d before
unfoldable pub drops_to : ℕ → List Change → ℕ
drops_to d [] = d
drops_to d (c ∷ l) = cond (eqb c.step mend_relation) (drops_to (suc d) l) (drops_to d l)

pub undone-append : (k l : List Change) (d : ℕ) (r : Records) → undone d (k ++ l) r ≡ undone d k (undone (drops_to d k) l r)
unfolding undone drops_to
undone-append [] l d r = refl
undone-append (c ∷ k) l d r =
    cases (eqb c.step mend_relation)
    (λ t. rw t (ap (relation_back d c) (undone-append k l (suc d) r)))
    (λ t. rw t (ap (node_back c) (undone-append k l d r)))

pub drops-append : (k l : List Change) (d : ℕ) → drops_to d (k ++ l) ≡ drops_to (drops_to d k) l
unfolding drops_to
drops-append [] l d = refl
drops-append (c ∷ k) l d = cases (eqb c.step mend_relation) (λ t. rw t (drops-append k l (suc d))) (λ t. rw t (drops-append k l d))

-- ---- the relations

module _ (r : Records) where
  abbrev bad : ℕ → Bool
  bad k = bad_number (count r) (relation_in r k)

  -- as many are dropped as are not kept
  kept-drops : (j : ℕ) → length (flat j (kept_at r)) + drops_to 0 (flat j (dropped_at r)) ≡ j
  unfolding flat kept_at dropped_at drops_to
  kept-drops zero = refl
  kept-drops (suc j) =
      let e = kept-drops j in
      rw (length-append (flat j (kept_at r)) (kept_at r j), drops-append (flat j (dropped_at r)) (dropped_at r j) 0)
      (cases (bad j) (λ t. rw t (omega arith)) (λ t. rw t (omega arith)))

  -- the relations below j that stay, and all from j on
  abbrev from : ℕ → Records
  from j = record { nodes = r.nodes; relations = flat j (kept_at r) ++ drop j r.relations }

  entry-put : (j : ℕ) → j < relation_count r → undone (drops_to 0 (flat j (dropped_at r))) (dropped_at r j) (from (suc j)) ≡ from j
  unfolding undone dropped_at kept_at relation_back put_in flat
  entry-put j h =
      let k : List Relation = flat j (kept_at r) in
      let n = kept-drops j in
      let e : j - drops_to 0 (flat j (dropped_at r)) ≡ length k = omega arith in
      let c : drop j r.relations ≡ relation_in r j ∷ drop (suc j) r.relations = drop-cons r.relations j no_relation h in
      cases (bad j)
      (λ t. rw (t, e, append-nil k, take_at k (drop (suc j) r.relations) (length k) refl, drop_at k (drop (suc j) r.relations) (length k) refl, c))
      (λ t. rw (t, c, append_assoc k (relation_in r j ∷ []) (drop (suc j) r.relations)))

  from-undone : (j : ℕ) → j ≤ relation_count r → undone 0 (flat j (dropped_at r)) (from j) ≡ r
  unfolding undone flat
  from-undone zero h = refl
  from-undone (suc j) h =
      undone-append (flat j (dropped_at r)) (dropped_at r j) 0 (from (suc j)) ∙ rw (entry-put j (omega arith)) (from-undone j (omega arith))

  pub drops-undone : undone 0 (drops r) (step5 r) ≡ r
  unfolding drops step5
  drops-undone =
      rw (← append-nil (flat (relation_count r) (kept_at r)), ← drop_of_length-le r.relations {i = relation_count r} (omega arith))
      (from-undone (relation_count r) (omega arith))
