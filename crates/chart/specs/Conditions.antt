-- The paper's conditions for the refusals 1 to 8, as propositions, each tied to the test that the reader makes. Assumes nothing.
use Rattle.std.specs.Prelude.{ℕ, ◌≤◌, ◌<◌, ◌≡◌, ◌↔◌, ◌⊎◌, Bool, true, false, not, ◌&&◌, ◌||◌, List, length, eqb}
use Rattle.std.proofs.Common.{ap₂, inl, inr, ⊎_elim, arith}
use Rattle.std.proofs.Math.Dec.{leb, ltb}
use borrow.Author.Tests.{lt-ltb, le-ltb, ltb-true, ltb-false, le-leb, leb-true, eq-eqb, ne_eqb, eqb-true, eqb-false, not-true, not-false}
use Rattle.paper.specs.Limits.{max_nodes, max_relations, chart_header, no_parent, max_flags, kinds}
use Rattle.general.specs.Cases.{contra, cases, both, either, neither, all3, or_left, or_right, not_so}
use Rattle.sets.specs.Set.{has}
use Rattle.general.specs.Below.{some, some_of, some_at, some-none, first, first-is, first_found, Lowest}
use Rattle.flat_chart.specs.Chart.{Kind}
use Rattle.records.specs.Image.{nodes, relations, nodes_offset, relations_offset, node_at, relation_at, parent_of, state_of, roles_at, from_of, to_of, kind_of, out_of_range, misplaced, bad_node_at, bad_relation_at}
use Rattle.nesting.specs.Nesting.{parent, AtOrAbove, OnLoop, nested, at_or_above, on_loop_at, is_group, event_node, flagged_group_at, nested-so}
use Rattle.flattening.specs.Flattening.{kind_number, Flattened, leads, related, NamesRole, names_at, named}

-- P holds of no number below n
abbrev pub Never : ℕ → (ℕ → Type 0) → Type 0
Never n P = (p : ℕ) → p < n → P p → ⊥

module _ (image : List ℕ) where
  -- 2: "N or K out of range"
  pub record InRange : Type 0 where
    pub some : 1 ≤ nodes image
    pub few : nodes image ≤ max_nodes
    pub few_relations : relations image ≤ max_relations

  -- 3: "offset or length wrong"
  pub record Laid : Type 0 where
    pub nodes_here : nodes_offset image ≡ chart_header
    pub relations_here : relations_offset image ≡ node_at (nodes image)
    pub exact : length image ≡ relation_at (nodes image) (relations image)

  -- 4: a parent from N to 65,534, or a lower byte of the flags above 7
  abbrev pub BadNode : ℕ → Type 0
  BadNode i = ((parent_of image i ≡ no_parent → ⊥) × (nodes image ≤ parent_of image i)) ⊎ (max_flags < state_of image i)

  -- "A node that is nobody's parent is an event. Others are groups"
  pub record Group (i : ℕ) : Type 0 where
    pub member : ℕ
    pub inside : parent image member i ≡ true

  -- 6: "a group's flags are 0", of the lower byte
  abbrev pub FlaggedGroup : ℕ → Type 0
  FlaggedGroup i = Group i × (state_of image i ≡ 0 → ⊥)

  -- 8: a from or a to that is no node, or a kind above 4
  abbrev pub BadRelation : ℕ → Type 0
  BadRelation k = ((nodes image ≤ from_of image k) ⊎ (nodes image ≤ to_of image k)) ⊎ (kinds ≤ kind_of image k)

-- ---- the tests say so

module _ {A B : Type 0} (x y : Bool) (p : (x ≡ true) ↔ A) (q : (y ≡ true) ↔ B) where
  or-so : ((x || y) ≡ true) ↔ (A ⊎ B)
  or-so = (λ h. either x y h (λ t. inl (p.0 t)) (λ t. inr (q.0 t)), λ r. ⊎_elim (λ t. or_left x y (p.1 t)) (λ t. or_right x y (q.1 t)) r)

  and_so : ((x && y) ≡ true) ↔ (A × B)
  and_so = (λ h. let t = both x y h in (p.0 t.0, q.0 t.1), λ r. ap₂ ◌&&◌ (p.1 r.0) (q.1 r.1))

leb-so : (a b : ℕ) → (leb a b ≡ true) ↔ (a ≤ b)
leb-so a b = (leb-true a b, le-leb a b)

ltb-so : (a b : ℕ) → (ltb a b ≡ true) ↔ (a < b)
ltb-so a b = (ltb-true a b, lt-ltb a b)

differ-so : (a b : ℕ) → (not (eqb a b) ≡ true) ↔ (a ≡ b → ⊥)
differ-so a b = (λ h. eqb-false a b (not-true (eqb a b) h), λ n. rw (ne_eqb a b n))

module _ (image : List ℕ) where
  pub range-right : (out_of_range image ≡ false) ↔ InRange image
  unfolding out_of_range
  range-right = (
    λ h.
        let t = neither (eqb (nodes image) 0 || ltb max_nodes (nodes image)) (ltb max_relations (relations image)) h in
        let u = neither (eqb (nodes image) 0) (ltb max_nodes (nodes image)) t.0 in
        let z : nodes image ≡ 0 → ⊥ = eqb-false (nodes image) 0 u.0 in
        record { some = omega arith; few = ltb-false max_nodes (nodes image) u.1; few_relations = ltb-false max_relations (relations image) t.1 },
    λ r.
        let s = r.some in
        rw (ne_eqb (nodes image) 0 (λ z. omega arith), le-ltb max_nodes (nodes image) r.few, le-ltb max_relations (relations image) r.few_relations),
  )

  pub laid-right : (misplaced image ≡ false) ↔ Laid image
  unfolding misplaced
  laid-right = (
    λ h.
        let t = all3 (eqb (nodes_offset image) chart_header) (eqb (relations_offset image) (node_at (nodes image))) (eqb (length image) (relation_at (nodes image) (relations image))) (not-false _ h) in
        record {
          nodes_here = eqb-true (nodes_offset image) chart_header t.0;
          relations_here = eqb-true (relations_offset image) (node_at (nodes image)) t.1;
          exact = eqb-true (length image) (relation_at (nodes image) (relations image)) t.2;
        },
    λ r. rw (
      eq-eqb (nodes_offset image) chart_header r.nodes_here,
      eq-eqb (relations_offset image) (node_at (nodes image)) r.relations_here,
      eq-eqb (length image) (relation_at (nodes image) (relations image)) r.exact,
    ),
  )

  pub node-bad : (i : ℕ) → (bad_node_at image i ≡ true) ↔ BadNode image i
  unfolding bad_node_at
  node-bad i =
      or-so (not (eqb (parent_of image i) no_parent) && leb (nodes image) (parent_of image i)) (ltb max_flags (state_of image i))
      (and_so (not (eqb (parent_of image i) no_parent)) (leb (nodes image) (parent_of image i)) (differ-so (parent_of image i) no_parent) (leb-so (nodes image) (parent_of image i)))
      (ltb-so max_flags (state_of image i))

  pub relation-bad : (k : ℕ) → (bad_relation_at image k ≡ true) ↔ BadRelation image k
  unfolding bad_relation_at
  relation-bad k =
      or-so (leb (nodes image) (from_of image k) || leb (nodes image) (to_of image k)) (leb kinds (kind_of image k))
      (or-so (leb (nodes image) (from_of image k)) (leb (nodes image) (to_of image k)) (leb-so (nodes image) (from_of image k)) (leb-so (nodes image) (to_of image k)))
      (leb-so kinds (kind_of image k))

  -- a parent is a node
  pub loop-so : (a : ℕ) → (on_loop_at image a ≡ true) ↔ OnLoop image a
  unfolding on_loop_at
  loop-so a = nested-so image a a

  pub above-so : (a b : ℕ) → (at_or_above image a b ≡ true) ↔ AtOrAbove image a b
  unfolding at_or_above
  above-so a b = or-so (eqb a b) (nested image a b) (eqb-true a b, eq-eqb a b) (nested-so image a b)

  pub member-in : (a b : ℕ) → parent image a b ≡ true → a < nodes image
  unfolding parent
  member-in a b h = ltb-true a (nodes image) (all3 (ltb a (nodes image)) (ltb b (nodes image)) (eqb (parent_of image a) b) h).0

  pub group-so : (i : ℕ) → (is_group image i ≡ true) ↔ Group image i
  unfolding is_group
  group-so i = (
    λ h. let t = some_at (nodes image) (λ a. parent image a i) h in record { member = t.0; inside = t.2 },
    λ r. some_of (nodes image) (λ a. parent image a i) r.member (member-in r.member i r.inside) r.inside,
  )

  pub flagged-so : (i : ℕ) → (flagged_group_at image i ≡ true) ↔ FlaggedGroup image i
  unfolding flagged_group_at
  flagged-so i = and_so (is_group image i) (not (eqb (state_of image i) 0)) (group-so i) (differ-so (state_of image i) 0)

  -- ---- relations

  pub related-so : (κ : Kind) (e f : ℕ) → (related image (kind_number κ) e f ≡ true) ↔ Flattened image κ e f
  unfolding related leads
  related-so κ e f = (
    λ h.
        let t = some_at (relations image) (leads image (kind_number κ) e f) h in
        let u = both (eqb (kind_of image t.0) (kind_number κ)) _ t.2 in
        let v = both (at_or_above image (event_node image e) (from_of image t.0)) (at_or_above image (event_node image f) (to_of image t.0)) u.1 in
        record {
          relation = t.0;
          exists = t.1;
          kind = eqb-true (kind_of image t.0) (kind_number κ) u.0;
          source = (above-so (event_node image e) (from_of image t.0)).0 v.0;
          target = (above-so (event_node image f) (to_of image t.0)).0 v.1;
        },
    λ r. some_of (relations image) (leads image (kind_number κ) e f) r.relation r.exists
        (rw (
          eq-eqb (kind_of image r.relation) (kind_number κ) r.kind,
          (above-so (event_node image e) (from_of image r.relation)).1 r.source,
          (above-so (event_node image f) (to_of image r.relation)).1 r.target,
        )),
  )

  -- ---- roles

  pub named-so : (e r : ℕ) → (named image e r ≡ true) ↔ NamesRole image e r
  unfolding named names_at
  named-so e r = (
    λ h.
        let t = some_at (nodes image) (names_at image e r) h in
        let u = both (at_or_above image (event_node image e) t.0) (has (roles_at image t.0) r) t.2 in
        record { node = t.0; exists = t.1; above = (above-so (event_node image e) t.0).0 u.0; names = u.1 },
    λ n. some_of (nodes image) (names_at image e r) n.node n.exists (rw ((above-so (event_node image e) n.node).1 n.above, n.names)),
  )

-- ---- the first that passes a test is the lowest of which its proposition holds

module _ {n : ℕ} {f : ℕ → Bool} {P : ℕ → Type 0} (t : (p : ℕ) → (f p ≡ true) ↔ P p) where
  pub lowest-of : some n f ≡ true → Lowest n P (first n f)
  lowest-of h =
      let s = some_at n f h in
      let l = first-is n f in
      let b : first n f < n = first_below s in
      record { fits = b; holds = (t (first n f)).0 (l.passes b); least = λ p i x. contra ((t p).1 x) (l.lowest p i) }
    where
      first_below : ((p : ℕ) × (p < n) × (f p ≡ true)) → first n f < n
      first_below s = let l = first-is n f in let a = l.fits in let q = s.1 in
          cases (ltb (first n f) n) (λ e. ltb-true (first n f) n e) (λ e. let o = ltb-false (first n f) n e in contra s.2 (l.lowest s.0 (omega arith)))

  pub never-of : some n f ≡ false → Never n P
  never-of h p l x = absurd-of (some_of n f p l ((t p).1 x))
    where
      absurd-of : some n f ≡ true → ⊥
      absurd-of y = contra y h

  pub lowest-some : {i : ℕ} → Lowest n P i → some n f ≡ true
  lowest-some {i} l = some_of n f i l.fits ((t i).1 l.holds)

  pub lowest-first : {i : ℕ} → Lowest n P i → i ≡ first n f
  lowest-first {i} l = first_found n f i l.fits (λ p h. not_so (λ e. l.least p h ((t p).0 e))) ((t i).1 l.holds)

  pub never-none : Never n P → some n f ≡ false
  never-none h = some-none n f (λ p l. not_so (λ e. h p l ((t p).0 e)))
