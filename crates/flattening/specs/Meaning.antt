-- What the reader's tables say of the image: each is what the definitions name. Assumes nothing.
use Prim.Native.Nat.{ℕ, ◌≤◌, ◌<◌}
use Rattle.std.specs.Prelude.{◌≡◌, ◌&&◌, List}
use Rattle.std.proofs.Math.Path.{refl, sym, ap, ap₂, subst}
use Rattle.std.proofs.Common.{◌∙◌, arith}
use Rattle.std.proofs.Math.Bool.{Bool, true, false, cond, and-false, and_comm}
use Rattle.std.proofs.Math.ListN.{get_or}
use Rattle.std.proofs.Math.Seq.{ext_get_or}
use Rattle.std.proofs.Math.Dec.{eqb, ltb}
use borrow.Author.Tests.{lt-ltb, ltb-true, eq-eqb, eqb-true}
use Rattle.paper.specs.Limits.{max_events, max_roles}
use Rattle.general.specs.Cases.{cases, both, same_test}
use Rattle.sets.specs.Set.{has, collect}
use Rattle.sets.specs.Laws.{ext, has-collect, has-empty}
use Rattle.general.specs.Below.{some, some_of, some_at, some-none, some_same, first, first-same, tally, tally-same}
use Rattle.general.specs.Tables.{tabulate, length-tabulate, get_or-tabulate}
use Rattle.sets.specs.Collecting.{collect-same}
use Rattle.general.specs.Numbering.{tally-find, first-numbered}
use Rattle.records.specs.Image.{nodes as nodes-of, from_of, to_of, kind_of, flags_of, roles_at, parent_of, Whole}
use Rattle.nesting.specs.Nesting.{parent, at_or_above, is_group, is_event, number, event_count, event_node, flagged_group_at}
use Rattle.nesting.specs.Climbing.{Straight, from_up}
use Rattle.nesting.specs.Tables.{Groups, is_event_in, flagged_in, EventNodes}
use Rattle.flattening.specs.Flattening.{holds_back, leads, related, entered, flat_set, flagged}
use Rattle.flattening.specs.Flattening.{names_at, named, flat_roles, role_table}
use Rattle.flattening.specs.Rows.{Members, near, near_of, far_of, near_fits, Good, enters_at, Gathered, in_row, some_above, names_role, with_parent, Handed, Between, with-above, roles-above, Flat, flat-same, flagged_by}
use Rattle.flattening.specs.Order.{Ordered}

-- ---- nodes

module _ {image : List ℕ} {n k : ℕ} (w : Whole image n k) where
  pub group-is : {groups : List Bool} → Groups image n groups → (i : ℕ) → i < n → get_or groups i false ≡ is_group image i
  unfolding is_group
  group-is m i h = m.each i h ∙ ap (λ (x : ℕ). some x (λ a. parent image a i)) w.nodes

  pub flags-are : {groups : List Bool} {r : ℕ} → Groups image n groups → r ≡ first n (flagged_in image groups) → r ≡ first n (flagged_group_at image)
  unfolding flagged_group_at
  flags-are {groups} m e = e ∙ first-same n (flagged_in image groups) (flagged_group_at image) (λ i h. rw (group-is m i h))

  pub count-is : {groups : List Bool} {r : ℕ} → Groups image n groups → r ≡ tally n (is_event_in groups) → r ≡ event_count image
  count-is {groups} m e = e ∙ tally-same n (is_event_in groups) (is_event image) (λ i h. rw (group-is m i h)) ∙ ap (λ (x : ℕ). tally x (is_event image)) w.nodes

  -- ---- events

  -- the node of an event: it is a node, an event, and its number is the event's
  pub record NodeOf (e i : ℕ) : Type 0 where
    pub fits : i < n
    pub event : is_event image i ≡ true
    pub numbered : number image i ≡ e
    pub node : event_node image e ≡ i

  pub node_of : (e : ℕ) → e < event_count image → (i : ℕ) × NodeOf e i
  unfolding event_node
  node_of e h =
      let t = tally-find (is_event image) (nodes-of image) e h in
      let l : t.0 < n = rw w.nodes t.1 in (
        t.0,
        record {
          fits = l;
          event = t.2;
          numbered = t.3;
          node = subst (λ (x : ℕ). first (nodes-of image) (λ j. is_event image j && eqb (number image j) x) ≡ t.0) t.3
              (first-numbered (is_event image) (nodes-of image) t.0 t.1 t.2);
        },
      )

  pub nodes-are : {groups : List Bool} {events : List ℕ} → Groups image n groups → EventNodes groups n events → (e : ℕ) → e < event_count image
      → (get_or events e 0 ≡ event_node image e) × (get_or events e 0 < n)
  nodes-are {groups} {events} m v e h =
      let t = node_of e h in
      let i : ℕ = t.0 in
      let o = t.1 in
      let same : tally i (is_event_in groups) ≡ e = tally-same i (is_event_in groups) (is_event image) (λ p l. rw (group-is m p (let f = o.fits in omega arith))) ∙ o.numbered in
      let at : get_or events e 0 ≡ i = rw same at (v.each i o.fits (rw (group-is m i o.fits) o.event)) in
      (at ∙ sym o.node, rw at o.fits)

-- ---- tests that go two ways

guarded : (k : ℕ) (x : Bool) (f : ℕ → Bool) → some k (λ r. x && f r) ≡ (x && some k f)
guarded k true f = refl
guarded k false f = some-none k (λ r. false) (λ p h. refl)

either_way : (k : ℕ) (h : Bool) (f g : ℕ → Bool) → some k (λ r. cond h (f r) (g r)) ≡ cond h (some k f) (some k g)
either_way k true f g = refl
either_way k false f g = refl

-- a set of the flat chart has the events of the chart that are entered there
pub flat_has : (image : List ℕ) (κ e f : ℕ) → has (flat_set image κ e) f ≡ ((ltb e (event_count image) && ltb f (event_count image)) && entered image κ e f)
unfolding flat_set
flat_has image κ e f =
    cases (ltb e (event_count image)) (λ t. rw t (has-collect (event_count image) (entered image κ e) f)) (λ t. rw t (has-empty f))

-- a role byte has the roles that the event names
pub roles-has : (image : List ℕ) (e r : ℕ) → has (flat_roles image e) r ≡ (ltb e (event_count image) && (ltb r max_roles && named image e r))
unfolding flat_roles
roles-has image e r = cases (ltb e (event_count image)) (λ t. rw t (has-collect max_roles (named image e) r)) (λ t. rw t (has-empty r))

-- ---- what the reader has when it flattens

pub record Ground (image : List ℕ) (n k : ℕ) (nodes : List ℕ) (events : ℕ) : Type 0 where
  pub whole : Whole image n k
  pub straight : Straight image
  pub goods : (r : ℕ) → r < k → Good image n r
  pub count : events ≡ event_count image
  pub few : events ≤ max_events
  pub placed : (e : ℕ) → e < events → (get_or nodes e 0 ≡ event_node image e) × (get_or nodes e 0 < n)

module _ {image : List ℕ} {n k : ℕ} {nodes : List ℕ} {events : ℕ} (g : Ground image n k nodes events) where
  pub flagged-is : (digit s : ℕ) → s ≡ flagged_by image nodes digit events → s ≡ flagged image digit
  unfolding flagged
  flagged-is digit s e =
      e ∙ collect-same events (λ x. has (flags_of image (get_or nodes x 0)) digit) (λ x. has (flags_of image (event_node image x)) digit) (λ x h. rw (g.placed x h).0)
      ∙ ap (λ (m : ℕ). collect m (λ x. has (flags_of image (event_node image x)) digit)) g.count

  -- a node is at or above the node of e exactly if the climb from there comes to it
  up_is : (e x : ℕ) → e < events → from_up image (get_or nodes e 0) x ≡ at_or_above image (event_node image e) x
  unfolding from_up
  up_is e x h = let v = g.placed e h in let l = v.1 in let w = g.whole.nodes in rw (lt-ltb (get_or nodes e 0) (nodes-of image) (omega arith), v.0)

  -- the role bytes are those of the definition
  names-is : (e r : ℕ) → e < events → some_above image (names_role image r) (get_or nodes e 0) ≡ (ltb r max_roles && named image e r)
  unfolding some_above named names_at
  names-is e r h =
      some_same (nodes-of image) _ (λ x. ltb r max_roles && names_at image e r x)
      (λ x l. rw (up_is e x h) (inward (at_or_above image (event_node image e) x) (ltb r max_roles) (has (roles_at image x) r)))
      ∙ guarded (nodes-of image) (ltb r max_roles) (names_at image e r)
    where
      inward : (a b c : Bool) → (a && (b && c)) ≡ (b && (a && c))
      inward true b c = refl
      inward false b c = sym (and-false b)

  roles-are : {roles : List ℕ} → Flat (λ e r. some_above image (names_role image r) (get_or nodes e 0)) events roles → roles ≡ role_table image
  unfolding role_table
  roles-are {roles} m =
      ext_get_or 0 roles (tabulate max_events (flat_roles image)) (m.size ∙ sym (length-tabulate max_events (flat_roles image)))
      (λ e h. byte e ∙ sym (get_or-tabulate max_events (flat_roles image) e 0 (let l = m.size in omega arith)))
    where
      byte : (e : ℕ) → get_or roles e 0 ≡ flat_roles image e
      byte e =
          ext (get_or roles e 0) (flat_roles image e)
          (λ r. m.each e r
          ∙ cases (ltb e events) (λ i. rw i (names-is e r (ltb-true e events i))) (λ i. rw i)
          ∙ ap (λ (x : ℕ). ltb e x && (ltb r max_roles && named image e r)) g.count
          ∙ sym (roles-has image e r))

  -- the roles that an event takes from its node and that node's parent, once the groups have taken in what stands above them
  pub roles-of : {order all roles : List ℕ} {groups : ℕ} → Ordered image order groups → Handed image order (names_role image) groups all
      → Flat (λ e f. with_parent image n (names_role image f (get_or nodes e 0)) all (parent_of image (get_or nodes e 0)) f) events roles → roles ≡ role_table image
  roles-of d h t =
      roles-are (flat-same t (λ e f l. let i = (g.placed e l).1 in let q = g.whole.nodes in roles-above g.whole h f i (d.all (get_or nodes e 0) (omega arith))))

  module _ {members gathered : List ℕ} {κ : ℕ} (m : Members image nodes events members) (a : Gathered image members n κ k gathered) where
    -- relation r is gathered at or above the node of e, and gives it f
    abbrev gives : ℕ → ℕ → ℕ → Bool
    gives e f r = eqb (kind_of image r) κ && (from_up image (get_or nodes e 0) (near_of image r) && has (get_or members (far_of image r) 0) f)

    -- so it leads to or from the event f
    leads-is : (e f r : ℕ) → e < events → gives e f r ≡ (ltb f events && cond (holds_back κ) (leads image κ f e r) (leads image κ e f r))
    unfolding leads
    leads-is e f r h =
        rw (up_is e (near_of image r) h, m.each (far_of image r) f) (cases (eqb (kind_of image r) κ)
        (λ t. rw (t, eqb-true (kind_of image r) κ t) (cases (ltb f events)
        (λ i. rw (i, up_is f _ (ltb-true f events i))
        (cases (holds_back κ) (λ b. rw b (and_comm (at_or_above image (event_node image e) (to_of image r)) (at_or_above image (event_node image f) (from_of image r)))) (λ b. rw b)))
        (λ i. rw i (and-false (at_or_above image (event_node image e) (near κ (from_of image r) (to_of image r)))))))
        (λ t. rw t (sym (nothing (holds_back κ) (ltb f events)))))
      where
        nothing : (h x : Bool) → (x && cond h false false) ≡ false
        nothing true x = and-false x
        nothing false x = and-false x

    -- what is gathered at or above the node of e is what the relations lead to
    above-is : (e f : ℕ) → e < events → some_above image (in_row gathered f) (get_or nodes e 0) ≡ some k (gives e f)
    unfolding some_above
    above-is e f h =
        same_test _ _
        (λ t.
        let (x, i, y) = some_at (nodes-of image) (λ x. from_up image (get_or nodes e 0) x && in_row gathered f x) t in
        let z = both (from_up image (get_or nodes e 0) x) (in_row gathered f x) y in
        let (r, j, u) = some_at k (enters_at image members κ x f) (sym (a.each x f) ∙ z.1) in
        let v = both (eqb (kind_of image r) κ) (eqb (near_of image r) x && has (get_or members (far_of image r) 0) f) u in
        let w = both (eqb (near_of image r) x) (has (get_or members (far_of image r) 0) f) v.1 in
        some_of k (gives e f) r j (rw (v.0, w.1, eqb-true (near_of image r) x w.0, z.0)))
        (λ t.
        let (r, j, u) = some_at k (gives e f) t in
        let v = both (eqb (kind_of image r) κ) _ u in
        let w = both (from_up image (get_or nodes e 0) (near_of image r)) _ v.1 in
        some_of (nodes-of image) (λ x. from_up image (get_or nodes e 0) x && in_row gathered f x) (near_of image r)
        (let o = near_fits (g.goods r j) in let q = g.whole.nodes in omega arith)
        (rw (w.0, a.each (near_of image r) f) (some_of k (enters_at image members κ (near_of image r) f) r j (rw (v.0, eq-eqb (near_of image r) (near_of image r) refl, w.1)))))

    table_is : {table : List ℕ} → Flat (λ e f. some_above image (in_row gathered f) (get_or nodes e 0)) events table → table ≡ tabulate max_events (flat_set image κ)
    unfolding entered related
    table_is {table} t =
        ext_get_or 0 table (tabulate max_events (flat_set image κ)) (t.size ∙ sym (length-tabulate max_events (flat_set image κ)))
        (λ e h. set_is e ∙ sym (get_or-tabulate max_events (flat_set image κ) e 0 (let l = t.size in omega arith)))
      where
        set_is : (e : ℕ) → get_or table e 0 ≡ flat_set image κ e
        set_is e =
            ext (get_or table e 0) (flat_set image κ e)
            (λ f.
            let lead : ℕ → Bool = λ r. cond (holds_back κ) (leads image κ f e r) (leads image κ e f r) in
            t.each e f
            ∙ cases (ltb e events)
            (λ i. rw i (above-is e f (ltb-true e events i)
            ∙ some_same k (gives e f) (λ r. ltb f events && lead r) (λ r j. leads-is e f r (ltb-true e events i))
            ∙ guarded k (ltb f events) lead
            ∙ ap (λ (b : Bool). ltb f events && b) (either_way k (holds_back κ) (leads image κ f e) (leads image κ e f))))
            (λ i. rw i)
            ∙ ap₂ (λ (x y : ℕ). (ltb e x && ltb f x) && cond (holds_back κ) (some y (leads image κ f e)) (some y (leads image κ e f))) g.count g.whole.relations
            ∙ sym (flat_has image κ e f))

    -- the rows that an event has at its node and at that node's parent, once the groups have taken in what stands above them
    pub table_of : {order rows table : List ℕ} {groups : ℕ} → Ordered image order groups → Handed image order (in_row gathered) groups rows → Between image (in_row gathered) rows
        → Flat (λ e f. with_parent image n (in_row rows f (get_or nodes e 0)) rows (parent_of image (get_or nodes e 0)) f) events table → table ≡ tabulate max_events (flat_set image κ)
    table_of {order} {rows} d h b t =
        table_is (flat-same t (λ e f l.
        let i = (g.placed e l).1 in
        let q = g.whole.nodes in
        with-above g.whole h f i refl (d.all (get_or nodes e 0) (omega arith)) (b.low (get_or nodes e 0) f) (b.high (get_or nodes e 0) f (omega arith))))
