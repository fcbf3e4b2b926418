-- The list has each change once, in the order of the steps, lowest record first; and a record without an entry is as it was. Assumes nothing.
use Prim.Native.Nat.{ℕ, zero, suc, ◌<◌}
use Rattle.std.specs.Prelude.{◌≡◌, ◌⊎◌, true, false, length}
use Rattle.std.proofs.Math.Path.{refl, sym, ap, subst}
use Rattle.std.proofs.Common.{◌∙◌}
use Rattle.std.proofs.Math.Logic.{inl, inr, ⊎_elim}
use Rattle.std.proofs.Math.Bool.{not}
use mathlib.Core.List.{List, [], ◌∷◌, ◌++◌, append-nil}
use native.Mathlib.Omega.{arith}
use Rattle.std.proofs.Math.ListN.{get_or}
use Rattle.std.proofs.Math.Seq.{get_or_at}
use Rattle.paper.specs.Limits.{mend_parent, mend_flags, mend_loop, mend_group, mend_relation}
use Rattle.general.specs.Cases.{contra, cases, lt-suc}
use Rattle.general.specs.Below.{tally, tally-same}
use Rattle.general.specs.Lists.{flat, flat-around, all-flat, All, all_append, all_map}
use Rattle.mending.specs.Records.{Node, Relation, Records, count, relation_count, node_in, relation_in, no_relation}
use Rattle.mending.specs.Mending.{Change, node_change, relation_change, alter, differs, alteration_at, alterations, parent_mended, flags_mended, loop_mended, group_mended}
use Rattle.mending.specs.Mending.{bad_number, kept_at, dropped_at, step5, drops, parents_mended, nodes_known, loops_mended, groups_mended, mended, changes}
use Rattle.mending.specs.Altering.{same-not-differs, differs-not-same, alter-node, counted1, counted2, counted3, counted4, kept-count}
use Rattle.mending.specs.Listing.{Before, Rising, Listed, Tells, parent, flags, loop, group, relation}

rising-append : (P Q : Change → Type 0) → ((c e : Change) → P c → Q e → Before c e) → (k l : List Change) → All P k → All Q l → Rising k → Rising l → Rising (k ++ l)
rising-append P Q h [] l a b x y = y
rising-append P Q h (c ∷ k) l a b x y =
    (all_append (Before c) k l x.0 (all_map Q (Before c) (λ e. h c e a.0) l b), rising-append P Q h k l a.1 b x.1 y)

-- entries of one step, of records below j
record Of (s j : ℕ) (c : Change) : Type 0 where
  step : c.step ≡ s
  below : c.number < j

-- one entry or none for each record, in their order
module _ (step : ℕ) (g : ℕ → List Change) (one : (i : ℕ) → (g i ≡ []) ⊎ ((c : Change) × (g i ≡ c ∷ []) × (c.step ≡ step) × (c.number ≡ i))) where
  flat-of : (j : ℕ) → All (Of step j) (flat j g)
  unfolding flat
  flat-of zero = tt
  flat-of (suc j) =
      all_append (Of step (suc j)) (flat j g) (g j)
      (all_map (Of step j) (Of step (suc j)) (λ c o. let b = o.below in record { step = o.step; below = omega arith }) (flat j g) (flat-of j))
      (⊎_elim (λ e. rw e tt) (λ t. let q = t.3 in rw t.1 (record { step = t.2; below = omega arith }, tt)) (one j))

  flat-rising : (j : ℕ) → Rising (flat j g)
  unfolding flat
  flat-rising zero = tt
  flat-rising (suc j) =
      ⊎_elim (λ e. subst Rising (sym (ap (λ (x : List Change). flat j g ++ x) e ∙ append-nil (flat j g))) (flat-rising j))
      (λ t. rw t.1 (rising-append (Of step j) (λ c. (c.step ≡ step) × (c.number ≡ j))
      (λ c e o q. let b = o.below in let s = q.1 in inr (o.step ∙ sym q.0, omega arith))
      (flat j g) (t.0 ∷ []) (flat-of j) ((t.2, t.3), tt) (flat-rising j) (tt, tt))) (one j)

listed-first : (c : Change) (k l : List Change) → Listed c k → Listed c (k ++ l)
listed-first c [] l m = absurd m
listed-first c (e ∷ k) l (inl q) = inl q
listed-first c (e ∷ k) l (inr m) = inr (listed-first c k l m)

listed-second : (c : Change) (k l : List Change) → Listed c l → Listed c (k ++ l)
listed-second c [] l m = m
listed-second c (e ∷ k) l m = inr (listed-second c k l m)

listed-flat : (c : Change) (g : ℕ → List Change) (j i : ℕ) → i < j → g i ≡ c ∷ [] → Listed c (flat j g)
unfolding flat
listed-flat c g zero i h e = absurd (omega arith)
listed-flat c g (suc j) i h e =
    lt-suc h (λ q. listed-second c (flat j g) (g j) (rw (← q, e) (inl refl))) (λ l. listed-first c (flat j g) (g j) (listed-flat c g j i l e))

module _ (step : ℕ) (f : ℕ → Node → Node) (r : Records) where
  alteration-one : (i : ℕ) → (alteration_at step f r i ≡ []) ⊎ ((c : Change) × (alteration_at step f r i ≡ c ∷ []) × (c.step ≡ step) × (c.number ≡ i))
  unfolding alteration_at
  alteration-one i = cases (differs (f i (node_in r i)) (node_in r i)) (λ t. inr (node_change step i (node_in r i), rw t, refl, refl)) (λ t. inl (rw t))

  alterations-of : All (Of step (count r)) (alterations step f r)
  unfolding alterations
  alterations-of = flat-of step (alteration_at step f r) alteration-one (count r)

  alterations-rising : Rising (alterations step f r)
  unfolding alterations
  alterations-rising = flat-rising step (alteration_at step f r) alteration-one (count r)

  -- each entry tells a change
  alterations-tell : (T : Change → Type 0) → ((i : ℕ) → i < count r → (node_in (alter f r) i ≡ node_in r i → ⊥) → T (node_change step i (node_in r i)))
      → All T (alterations step f r)
  unfolding alterations alteration_at
  alterations-tell T h =
      all-flat T (count r) (alteration_at step f r) (λ i l. cases (differs (f i (node_in r i)) (node_in r i))
      (λ t. rw t (h i l (λ e. contra t (ap (λ (x : Node). differs x (node_in r i)) (sym (alter-node f r i l) ∙ e) ∙ same-not-differs (node_in r i))), tt)) (λ t. rw t tt))

  -- and each change has its entry
  alterations-listed : (i : ℕ) → i < count r → (node_in (alter f r) i ≡ node_in r i → ⊥) → Listed (node_change step i (node_in r i)) (alterations step f r)
  unfolding alterations alteration_at
  alterations-listed i h n =
      cases (differs (f i (node_in r i)) (node_in r i))
      (λ t. listed-flat (node_change step i (node_in r i)) (alteration_at step f r) (count r) i h (rw t))
      (λ t. absurd (n (alter-node f r i h ∙ differs-not-same _ _ t)))

module _ (r : Records) where
  drop-one : (k : ℕ) → (dropped_at r k ≡ []) ⊎ ((c : Change) × (dropped_at r k ≡ c ∷ []) × (c.step ≡ mend_relation) × (c.number ≡ k))
  unfolding dropped_at
  drop-one k = cases (bad_number (count r) (relation_in r k)) (λ t. inr (relation_change k (relation_in r k), rw t, refl, refl)) (λ t. inl (rw t))

  drops-of : All (Of mend_relation (relation_count r)) (drops r)
  unfolding drops
  drops-of = flat-of mend_relation (dropped_at r) drop-one (relation_count r)

  drops-rising : Rising (drops r)
  unfolding drops
  drops-rising = flat-rising mend_relation (dropped_at r) drop-one (relation_count r)

  drops-tell : (T : Change → Type 0) → ((k : ℕ) → k < relation_count r → bad_number (count r) (relation_in r k) ≡ true → T (relation_change k (relation_in r k)))
      → All T (drops r)
  unfolding drops dropped_at
  drops-tell T h =
      all-flat T (relation_count r) (dropped_at r) (λ k l. cases (bad_number (count r) (relation_in r k)) (λ t. rw t (h k l t, tt)) (λ t. rw t tt))

  drops-listed : (k : ℕ) → k < relation_count r → bad_number (count r) (relation_in r k) ≡ true → Listed (relation_change k (relation_in r k)) (drops r)
  unfolding drops dropped_at
  drops-listed k h t = listed-flat (relation_change k (relation_in r k)) (dropped_at r) (relation_count r) k h (rw t)

  kept_in : (k : ℕ) → k < relation_count r → bad_number (count r) (relation_in r k) ≡ false
      → relation_in (step5 r) (tally k (λ j. not (bad_number (count r) (relation_in r j)))) ≡ relation_in r k
  unfolding step5 kept_at
  kept_in k h t =
      let (rest, p) = flat-around (relation_count r) k (kept_at r) h in
      let e : kept_at r k ≡ relation_in r k ∷ [] = rw t in
      rw (← kept-count r k) (ap (λ (l : List Relation). get_or l (length (flat k (kept_at r))) no_relation) (p ∙ ap (λ (x : List Relation). flat k (kept_at r) ++ (x ++ rest)) e)
      ∙ get_or_at (flat k (kept_at r)) (relation_in r k) rest no_relation (length (flat k (kept_at r))) refl)

-- ---- the whole list

module _ (r : Records) where
  abbrev list1 : List Change
  list1 = alterations mend_parent (parent_mended r) r

  abbrev list2 : List Change
  list2 = alterations mend_flags flags_mended (parents_mended r)

  abbrev list3 : List Change
  list3 = alterations mend_loop (loop_mended (nodes_known r)) (nodes_known r)

  abbrev list4 : List Change
  list4 = alterations mend_group (group_mended (loops_mended r)) (loops_mended r)

  abbrev list5 : List Change
  list5 = drops (groups_mended r)

  -- entries of one step before entries of later ones
  stepwise : (s n : ℕ) (k l : List Change) → All (Of s n) k → All (λ e. s < e.step) l → Rising k → Rising l → Rising (k ++ l)
  stepwise s n k l = rising-append (Of s n) (λ e. s < e.step) (λ c e o h. let q = o.step in inl (omega arith)) k l

  -- entries of the step s and of later ones come after the step t
  later : (t s n : ℕ) (k l : List Change) → t < s → All (Of s n) k → All (λ e. s < e.step) l → All (λ e. t < e.step) (k ++ l)
  later t s n k l h a b =
      all_append (λ e. t < e.step) k l (all_map (Of s n) (λ e. t < e.step) (λ e o. let q = o.step in omega arith) k a)
      (all_map (λ e. s < e.step) (λ e. t < e.step) (λ e i. omega arith) l b)

  -- "in that order, lowest record first", and none twice
  pub changes-rising : Rising (changes r)
  unfolding changes
  changes-rising =
      let o1 = alterations-of mend_parent (parent_mended r) r in
      let o2 = alterations-of mend_flags flags_mended (parents_mended r) in
      let o3 = alterations-of mend_loop (loop_mended (nodes_known r)) (nodes_known r) in
      let o4 = alterations-of mend_group (group_mended (loops_mended r)) (loops_mended r) in
      let l4 : All (λ e. mend_group < e.step) list5 =
      all_map (Of mend_relation (relation_count (groups_mended r))) (λ e. mend_group < e.step) (λ e o. let q = o.step in omega arith) list5 (drops-of (groups_mended r)) in
      let l3 = later mend_loop mend_group (count (loops_mended r)) list4 list5 (omega arith) o4 l4 in
      let l2 = later mend_flags mend_loop (count (nodes_known r)) list3 (list4 ++ list5) (omega arith) o3 l3 in
      let l1 = later mend_parent mend_flags (count (parents_mended r)) list2 (list3 ++ (list4 ++ list5)) (omega arith) o2 l2 in
      stepwise mend_parent (count r) list1 _ o1 l1 (alterations-rising mend_parent (parent_mended r) r)
      (stepwise mend_flags (count (parents_mended r)) list2 _ o2 l2 (alterations-rising mend_flags flags_mended (parents_mended r))
      (stepwise mend_loop (count (nodes_known r)) list3 _ o3 l3 (alterations-rising mend_loop (loop_mended (nodes_known r)) (nodes_known r))
      (stepwise mend_group (count (loops_mended r)) list4 _ o4 l4 (alterations-rising mend_group (group_mended (loops_mended r)) (loops_mended r)) (drops-rising (groups_mended r)))))

  -- the relations are those of the old chart until the last step
  relation-tells : (k : ℕ) → k < relation_count (groups_mended r) → bad_number (count (groups_mended r)) (relation_in (groups_mended r) k) ≡ true
      → Tells r (relation_change k (relation_in (groups_mended r) k))
  unfolding alter
  relation-tells k h t = relation k h (ap (λ (n : ℕ). bad_number n (relation_in r k)) (sym (counted4 r)) ∙ t)

  relation-listed : (k : ℕ) → k < relation_count r → bad_number (count r) (relation_in r k) ≡ true → Listed (relation_change k (relation_in r k)) list5
  unfolding alter
  relation-listed k h t = drops-listed (groups_mended r) k h (ap (λ (n : ℕ). bad_number n (relation_in r k)) (counted4 r) ∙ t)

  -- each entry tells a change
  pub changes-tell : All (Tells r) (changes r)
  unfolding changes
  changes-tell =
      all_append (Tells r) list1 _ (alterations-tell mend_parent (parent_mended r) r (Tells r) parent)
      (all_append (Tells r) list2 _ (alterations-tell mend_flags flags_mended (parents_mended r) (Tells r) (λ i h. flags i (rw (counted1 r) at h)))
      (all_append (Tells r) list3 _ (alterations-tell mend_loop (loop_mended (nodes_known r)) (nodes_known r) (Tells r) (λ i h. loop i (rw (counted2 r) at h)))
      (all_append (Tells r) list4 _ (alterations-tell mend_group (group_mended (loops_mended r)) (loops_mended r) (Tells r) (λ i h. group i (rw (counted3 r) at h)))
      (drops-tell (groups_mended r) (Tells r) relation-tells))))

  -- and each change has its entry
  pub told-listed : {c : Change} → Tells r c → Listed c (changes r)
  unfolding changes
  told-listed {c} (parent i h n) = listed-first c list1 _ (alterations-listed mend_parent (parent_mended r) r i h n)
  told-listed {c} (flags i h n) =
      listed-second c list1 _ (listed-first c list2 _ (alterations-listed mend_flags flags_mended (parents_mended r) i (rw (counted1 r) h) n))
  told-listed {c} (loop i h n) =
      listed-second c list1 _ (listed-second c list2 _ (listed-first c list3 _
      (alterations-listed mend_loop (loop_mended (nodes_known r)) (nodes_known r) i (rw (counted2 r) h) n)))
  told-listed {c} (group i h n) =
      listed-second c list1 _ (listed-second c list2 _ (listed-second c list3 _ (listed-first c list4 _
      (alterations-listed mend_group (group_mended (loops_mended r)) (loops_mended r) i (rw (counted3 r) h) n))))
  told-listed {c} (relation k h t) =
      listed-second c list1 _ (listed-second c list2 _ (listed-second c list3 _ (listed-second c list4 list5 (relation-listed k h t))))

  -- ---- "a record without an entry is as it was"

  untouched-at : (s : ℕ) (f : ℕ → Node → Node) (b : Records) (i : ℕ) → i < count b → (Listed (node_change s i (node_in b i)) (alterations s f b) → ⊥)
      → node_in (alter f b) i ≡ node_in b i
  untouched-at s f b i h n =
      cases (differs (node_in (alter f b) i) (node_in b i))
      (λ t. absurd (n (alterations-listed s f b i h (λ e. contra t (ap (λ (x : Node). differs x (node_in b i)) e ∙ same-not-differs (node_in b i))))))
      (λ t. differs-not-same _ _ t)

  -- a node that no entry of steps 1 to 4 names
  pub untouched-node : (i : ℕ) → i < count r → ((c : Change) → Listed c (changes r) → c.number ≡ i → c.step ≡ mend_relation) → node_in (mended r) i ≡ node_in r i
  unfolding mended step5 changes
  untouched-node i h n =
      untouched-at mend_group (group_mended (loops_mended r)) (loops_mended r) i (rw (counted3 r) h)
      (λ m. let z : mend_group ≡ mend_relation = n _ (listed-second _ list1 _ (listed-second _ list2 _ (listed-second _ list3 _ (listed-first _ list4 _ m)))) refl in omega arith)
      ∙ untouched-at mend_loop (loop_mended (nodes_known r)) (nodes_known r) i (rw (counted2 r) h)
      (λ m. let z : mend_loop ≡ mend_relation = n _ (listed-second _ list1 _ (listed-second _ list2 _ (listed-first _ list3 _ m))) refl in omega arith)
      ∙ untouched-at mend_flags flags_mended (parents_mended r) i (rw (counted1 r) h)
      (λ m. let z : mend_flags ≡ mend_relation = n _ (listed-second _ list1 _ (listed-first _ list2 _ m)) refl in omega arith)
      ∙ untouched-at mend_parent (parent_mended r) r i h (λ m. let z : mend_parent ≡ mend_relation = n _ (listed-first _ list1 _ m) refl in omega arith)

  -- a relation that no entry of step 5 names stands behind those before it that stay
  pub untouched-relation : (k : ℕ) → k < relation_count r → ((c : Change) → Listed c (changes r) → c.step ≡ mend_relation → c.number ≡ k → ⊥)
      → relation_in (mended r) (tally k (λ j. not (bad_number (count r) (relation_in r j)))) ≡ relation_in r k
  unfolding mended alter
  untouched-relation k h n =
      let same : (j : ℕ) → bad_number (count r) (relation_in r j) ≡ bad_number (count (groups_mended r)) (relation_in r j) =
      λ j. ap (λ (m : ℕ). bad_number m (relation_in r j)) (sym (counted4 r)) in
      cases (bad_number (count r) (relation_in r k)) (λ t. absurd (n _ (told-listed (relation k h t)) refl refl))
      (λ t. ap (relation_in (mended r))
      (tally-same k (λ j. not (bad_number (count r) (relation_in r j))) (λ j. not (bad_number (count (groups_mended r)) (relation_in r j))) (λ j l. ap not (same j)))
      ∙ kept_in (groups_mended r) k h (sym (same k) ∙ t))
