-- Groups in an order in which each stands behind its parent: how climbs that mark what they meet make one. Assumes nothing.
use Rattle.std.specs.Prelude.{ℕ, suc, ◌+◌, ◌-◌, ◌≤◌, ◌<◌, ◌≡◌, refl, Bool, true, false, cond, ◌||◌, List, length, get_or, set, replicate, eqb, ltb}
use Rattle.std.proofs.Common.{sym, ◌∙◌, subst, arith, length-set, get_or-set_same, get_or-set_other, lt-ltb, le-ltb, ltb-true, ltb-false, eq-eqb, eqb-true}
use Rattle.std.proofs.Math.Bool.{or-false}
use Rattle.std.proofs.lemmas.List.{length-replicate, get_or-replicate}
use Rattle.std.proofs.lemmas.Bool.{eqb-false}
use Rattle.paper.specs.Limits.{max_nodes}
use Rattle.general.specs.Cases.{cases, either, or_left, or_right, same_test}
use Rattle.general.specs.Below.{some, some_of, some_at, some_same, some-step, tally, tally-le, tally-less, tally-none}
use Rattle.records.specs.Image.{nodes, parent_of, Whole}
use Rattle.nesting.specs.Climbing.{steps}

-- x is one of the first m
abbrev pub stands_in : List ℕ → ℕ → ℕ → Bool
stands_in order m x = some m (λ j. eqb (get_or order j 0) x)

-- each of the first m is a node, and a parent of it stands before it
pub record Behind (image order : List ℕ) (m : ℕ) : Type 0 where
  pub fits : (j : ℕ) → j < m → get_or order j 0 < nodes image
  pub above : (j : ℕ) → j < m → parent_of image (get_or order j 0) < nodes image → stands_in order j (parent_of image (get_or order j 0)) ≡ true

-- and every parent of a node is among them
pub record Ordered (image order : List ℕ) (m : ℕ) : Type 0 where
  pub few : m ≤ max_nodes
  pub behind : Behind image order m
  pub all : (i : ℕ) → i < nodes image → parent_of image i < nodes image → stands_in order m (parent_of image i) ≡ true

-- ---- a climb from i, over the nodes that were not marked

-- the path's node j, and past the path the node to which the climb has come
abbrev reach : List ℕ → ℕ → ℕ → ℕ → ℕ
reach path count c j = cond (ltb j count) (get_or path j 0) c

abbrev pub marked_in : List Bool → ℕ → Bool
marked_in placed x = get_or placed x false

-- the climb from i has come to c
pub record Path (image : List ℕ) (n : ℕ) (old : List Bool) (i c : ℕ) (placed : List Bool) (path : List ℕ) (count : ℕ) : Type 0 where
  pub size : length placed ≡ max_nodes
  pub room : length path ≡ max_nodes
  pub each : (x : ℕ) → x < n → marked_in placed x ≡ (marked_in old x || stands_in path count x)
  pub fits : (j : ℕ) → j < count → get_or path j 0 < n
  pub chain : (j : ℕ) → j < count → parent_of image (get_or path j 0) ≡ reach path count c (j + 1)
  pub start : reach path count c 0 ≡ i
  pub low : (j : ℕ) → j < count → steps image c < steps image (get_or path j 0)
  pub marked : tally n (marked_in placed) ≡ count + tally n (marked_in old)

-- how it ends: what lies above the path's last node was marked before
pub record Found (image : List ℕ) (n : ℕ) (old : List Bool) (i : ℕ) (placed : List Bool) (path : List ℕ) (count : ℕ) : Type 0 where
  pub size : length placed ≡ max_nodes
  pub room : length path ≡ max_nodes
  pub each : (x : ℕ) → x < n → marked_in placed x ≡ (marked_in old x || stands_in path count x)
  pub fits : (j : ℕ) → j < count → get_or path j 0 < n
  pub next : (j : ℕ) → j + 1 < count → parent_of image (get_or path j 0) ≡ get_or path (j + 1) 0
  pub last : (j : ℕ) → j + 1 ≡ count → parent_of image (get_or path j 0) < n → marked_in old (parent_of image (get_or path j 0)) ≡ true
  pub done : i < n → marked_in placed i ≡ true
  pub marked : tally n (marked_in placed) ≡ count + tally n (marked_in old)

pub path-none : {image path : List ℕ} {n i : ℕ} {old : List Bool} → length old ≡ max_nodes → length path ≡ max_nodes → Path image n old i i old path 0
unfolding some
path-none {old} s r =
    record {
      size = s;
      room = r;
      each = λ x h. sym (or-false (marked_in old x));
      fits = λ j h. absurd (omega arith);
      chain = λ j h. absurd (omega arith);
      start = refl;
      low = λ j h. absurd (omega arith);
      marked = omega arith;
    }

module _ {image : List ℕ} {n k : ℕ} {old placed : List Bool} {i c : ℕ} {path : List ℕ} {count : ℕ} (w : Whole image n k) (m : Path image n old i c placed path count) where
  one_more : c < n → marked_in placed c ≡ false → tally n (marked_in (set placed c true)) ≡ suc (tally n (marked_in placed))
  one_more h t =
      tally-less n (marked_in (set placed c true)) (marked_in placed) c h (get_or-set_same placed c true false (let s = m.size in let f = w.few in omega arith)) t
      (λ x l o. get_or-set_other placed c x true false o)

  pub path-fits : c < n → marked_in placed c ≡ false → count < max_nodes
  path-fits h t =
      let e = one_more h t in
      let l = tally-le n (marked_in (set placed c true)) in
      let q = m.marked in
      let f = w.few in
      omega arith

  pub path-more : {p : ℕ} → c < n → marked_in placed c ≡ false → p ≡ parent_of image c → steps image p < steps image c
      → Path image n old i p (set placed c true) (set path count c) (count + 1)
  path-more {p} h t q d =
      record {
        size = length-set placed c true ∙ m.size;
        room = length-set path count c ∙ m.room;
        each = λ x l. mark x l;
        fits = λ j l. go j l (λ e. rw (e, here) h) (λ o. rw (there j o) (m.fits j o));
        chain = λ j l. go j l (λ e. rw (e, here, le-ltb (count + 1) (count + 1) (omega arith)) (sym q)) (λ o. rw (there j o) (m.chain j o ∙ sym (reached (j + 1) (omega arith))));
        start = reached 0 (omega arith) ∙ m.start;
        low = λ j l. go j l (λ e. rw (e, here) d) (λ o. rw (there j o) (let x = m.low j o in omega arith));
        marked = let e = one_more h t in let o = m.marked in omega arith;
      }
    where
      here : get_or (set path count c) count 0 ≡ c
      here = get_or-set_same path count c 0 (let r = m.room in let f = path-fits h t in omega arith)

      there : (j : ℕ) → j < count → get_or (set path count c) j 0 ≡ get_or path j 0
      there j o = get_or-set_other path count j c 0 (λ z. omega arith)

      go : {C : Type 0} (j : ℕ) → j < count + 1 → (j ≡ count → C) → (j < count → C) → C
      go j l a b = cases (ltb j count) (λ s. b (ltb-true j count s)) (λ s. a (let x = ltb-false j count s in omega arith))

      reached : (j : ℕ) → j ≤ count → reach (set path count c) (count + 1) p j ≡ reach path count c j
      reached j l =
          rw (lt-ltb j (count + 1) (omega arith)) (cases (ltb j count)
          (λ s. rw s (there j (ltb-true j count s)))
          (λ s. rw s (let x : j ≡ count = (let y = ltb-false j count s in omega arith) in rw x here)))

      mark : (x : ℕ) → x < n → marked_in (set placed c true) x ≡ (marked_in old x || stands_in (set path count c) (count + 1) x)
      mark x l =
          rw (some-step count (λ j. eqb (get_or (set path count c) j 0) x), some_same count (λ j. eqb (get_or (set path count c) j 0) x) (λ j. eqb (get_or path j 0) x) (λ j o. rw (there j o)), here)
          (cases (eqb c x)
          (λ s. rw (s, ← eqb-true c x s) (get_or-set_same placed c true false (let z = m.size in let f = w.few in omega arith) ∙ sym (or_right (marked_in old c) _ (or_right (stands_in path count c) true refl))))
          (λ s. rw (s, or-false (stands_in path count x)) (get_or-set_other placed c x true false (λ z. eqb-false c x s (sym z)) ∙ m.each x l)))

  path-found : (c < n → marked_in placed c ≡ true) → Found image n old i placed path count
  path-found t =
      record {
        size = m.size;
        room = m.room;
        each = m.each;
        fits = m.fits;
        next = λ j l. m.chain j (omega arith) ∙ rw (lt-ltb (j + 1) count l);
        last = λ j e l.
            let q : parent_of image (get_or path j 0) ≡ c = m.chain j (omega arith) ∙ rw (le-ltb (j + 1) count (omega arith)) in
            let h : c < n = omega arith in
            rw q (either (marked_in old c) (stands_in path count c) (sym (m.each c h) ∙ t h) (λ a. a)
            (λ a.
            let (x, b, d) = some_at count (λ j. eqb (get_or path j 0) c) a in
            let o = m.low x b in
            let z = eqb-true (get_or path x 0) c d in
            let y = rw z at o in
            absurd (omega arith)));
        done = λ h.
            cases (ltb 0 count)
            (λ s.
            let q : get_or path 0 0 ≡ i = rw s at m.start in
            m.each i h ∙ or_right (marked_in old i) _ (some_of count (λ j. eqb (get_or path j 0) i) 0 (ltb-true 0 count s) (eq-eqb (get_or path 0 0) i q)))
            (λ s. let q : c ≡ i = rw s at m.start in rw (← q) (t (omega arith)));
        marked = m.marked;
      }

  pub path-met : marked_in placed c ≡ true → Found image n old i placed path count
  path-met t = path-found (λ h. t)

  pub path-end : n ≤ c → Found image n old i placed path count
  path-end h = path-found (λ l. absurd (omega arith))

-- ---- the path goes behind the order, its last node first

-- the first j of them
pub record Appended (old path : List ℕ) (m count j : ℕ) (new : List ℕ) : Type 0 where
  pub size : length new ≡ max_nodes
  pub kept : (x : ℕ) → x < m → get_or new x 0 ≡ get_or old x 0
  pub added : (x y : ℕ) → x < j → x + y + 1 ≡ count → get_or new (m + x) 0 ≡ get_or path y 0

-- ---- the whole order

-- the walk has climbed from the parents of the first a nodes
pub record Placed (image : List ℕ) (n a : ℕ) (order : List ℕ) (m : ℕ) (placed : List Bool) : Type 0 where
  pub size : length placed ≡ max_nodes
  pub behind : Behind image order m
  pub each : (x : ℕ) → x < n → marked_in placed x ≡ stands_in order m x
  pub done : (b : ℕ) → b < a → parent_of image b < n → marked_in placed (parent_of image b) ≡ true
  pub marked : tally n (marked_in placed) ≡ m

pub placed-none : {image order : List ℕ} {n k : ℕ} → Whole image n k → Placed image n 0 order 0 (replicate max_nodes false)
unfolding some
placed-none {image} {order} {n} w =
    let no : (x : ℕ) → x < n → marked_in (replicate max_nodes false) x ≡ false = λ x h. get_or-replicate max_nodes x false false (let f = w.few in omega arith) in
    record {
      size = length-replicate max_nodes false;
      behind = record { fits = λ j h. absurd (omega arith); above = λ j h. absurd (omega arith) };
      each = no;
      done = λ b h. absurd (omega arith);
      marked = tally-none n (marked_in (replicate max_nodes false)) no;
    }

module _ {image order path : List ℕ} {n k a m count i : ℕ} {old placed : List Bool} (w : Whole image n k) (p : Placed image n a order m old) (f : Found image n old i placed path count) where
  pub placed-fits : m + count ≤ max_nodes
  placed-fits = let l = tally-le n (marked_in placed) in let q = f.marked in let r = p.marked in let h = w.few in omega arith

  module _ {new : List ℕ} (g : Appended order path m count count new) where
    same-before : (j x : ℕ) → j ≤ m → stands_in new j x ≡ stands_in order j x
    same-before j x l = some_same j (λ y. eqb (get_or new y 0) x) (λ y. eqb (get_or order y 0) x) (λ y o. rw (g.kept y (omega arith)))

    -- what stood there stands there still
    still : (j x : ℕ) → m ≤ j → stands_in order m x ≡ true → stands_in new j x ≡ true
    still j x l t =
        let (y, o, e) = some_at m (λ y. eqb (get_or order y 0) x) t in
        some_of j (λ y. eqb (get_or new y 0) x) y (omega arith) (rw (g.kept y o) e)

    -- the places behind the first m, from the path's last node on
    module _ (x y : ℕ) (e : x + y + 1 ≡ count) where
      node_at : get_or new (m + x) 0 ≡ get_or path y 0
      node_at = g.added x y (omega arith) e

      above_at : parent_of image (get_or path y 0) < n → stands_in new (m + x) (parent_of image (get_or path y 0)) ≡ true
      above_at l =
          cases (ltb (y + 1) count)
          (λ t.
          let h = ltb-true (y + 1) count t in
          let q : get_or new (m + (x - 1)) 0 ≡ get_or path (y + 1) 0 = g.added (x - 1) (y + 1) (omega arith) (omega arith) in
          some_of (m + x) (λ j. eqb (get_or new j 0) (parent_of image (get_or path y 0))) (m + (x - 1)) (omega arith)
          (eq-eqb (get_or new (m + (x - 1)) 0) (parent_of image (get_or path y 0)) (q ∙ sym (f.next y h))))
          (λ t.
          let h = ltb-false (y + 1) count t in
          still (m + x) (parent_of image (get_or path y 0)) (omega arith) (sym (p.each (parent_of image (get_or path y 0)) l) ∙ f.last y (omega arith) l))

    -- a place of the new order: one of the old, or one behind them
    by_place : {C : ℕ → Type 0} → ((j : ℕ) → j < m → C j) → ((x y : ℕ) → x + y + 1 ≡ count → C (m + x)) → (j : ℕ) → j < m + count → C j
    by_place {C} a b j l =
        cases (ltb j m) (λ t. a j (ltb-true j m t))
        (λ t.
        let h = ltb-false j m t in
        let q : m + (j - m) ≡ j = omega arith in
        subst C q (b (j - m) (count - 1 - (j - m)) (omega arith)))

    pub behind_more : Behind image new (m + count)
    behind_more =
        let e = w.nodes in
        record {
          fits = by_place (λ j l. rw (g.kept j l) (p.behind.fits j l)) (λ x y q. rw (node_at x y q) (let h = f.fits y (omega arith) in omega arith));
          above = by_place (λ j l. rw (g.kept j l) (λ h. same-before j (parent_of image (get_or order j 0)) (omega arith) ∙ p.behind.above j l h))
              (λ x y q. rw (node_at x y q) (λ h. above_at x y q (omega arith)));
        }

    stands-more : (x : ℕ) → stands_in new (m + count) x ≡ (stands_in order m x || stands_in path count x)
    stands-more x =
        same_test _ _
        (λ t.
        let (j, o, e) = some_at (m + count) (λ j. eqb (get_or new j 0) x) t in
        by_place {C = λ j. eqb (get_or new j 0) x ≡ true → (stands_in order m x || stands_in path count x) ≡ true}
        (λ j l e. or_left (stands_in order m x) _ (some_of m (λ j. eqb (get_or order j 0) x) j l (rw (g.kept j l) at e)))
        (λ a b q e. or_right (stands_in order m x) _ (some_of count (λ j. eqb (get_or path j 0) x) b (omega arith) (rw (node_at a b q) at e)))
        j o e)
        (λ t.
        either (stands_in order m x) (stands_in path count x) t (still (m + count) x (omega arith))
        (λ s.
        let (y, o, e) = some_at count (λ j. eqb (get_or path j 0) x) s in
        let q : (count - 1 - y) + y + 1 ≡ count = omega arith in
        some_of (m + count) (λ j. eqb (get_or new j 0) x) (m + (count - 1 - y)) (omega arith) (rw (node_at (count - 1 - y) y q) e)))

    pub placed-more : i ≡ parent_of image a → Placed image n (a + 1) new (m + count) placed
    placed-more q =
        record {
          size = f.size;
          behind = behind_more;
          each = λ x h. f.each x h ∙ rw (p.each x h) (sym (stands-more x));
          done = λ b h l.
              cases (eqb b a)
              (λ t. rw (eqb-true b a t, ← q) (f.done (rw (q, ← eqb-true b a t) l)))
              (λ t. f.each (parent_of image b) l ∙ or_left (marked_in old (parent_of image b)) _ (p.done b (let z = eqb-false b a t in lower b z h) l));
          marked = let o = f.marked in let r = p.marked in omega arith;
        }
      where
        lower : (b : ℕ) → (b ≡ a → ⊥) → b < a + 1 → b < a
        lower b z h = cases (ltb b a) (λ t. ltb-true b a t) (λ t. absurd (z (let y = ltb-false b a t in omega arith)))

pub placed_end : {image order : List ℕ} {n k a m : ℕ} {placed : List Bool} → Whole image n k → n ≤ a → Placed image n a order m placed → Ordered image order m
placed_end {image} {order} {n} {a} {m} {placed} w h p =
    let e = w.nodes in
    record {
      few = let l = tally-le n (marked_in placed) in let q = p.marked in let f = w.few in omega arith;
      behind = p.behind;
      all = λ i l o. sym (p.each (parent_of image i) (omega arith)) ∙ p.done i (omega arith) (omega arith);
    }
