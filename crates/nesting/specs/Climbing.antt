-- The climb from a node to its parents: chains of parents that end, what the climb meets, how far it can go, and the walk that finds whether parents loop. Assumes nothing.
use Prim.Native.Nat.{ℕ, suc, ◌+◌, ◌≤◌, ◌<◌}
use Rattle.std.specs.Prelude.{◌≡◌, ◌≢◌, true, false, not, cond, ◌&&◌, ◌||◌, List, length, get_or, set, replicate, ltb}
use Rattle.std.proofs.Math.Path.{refl}
use Rattle.std.proofs.Common.{sym, ◌∙◌, length-set, get_or-set_same, get_or-set_other}
use Rattle.std.proofs.Math.Bool.{Bool}
use native.Mathlib.Omega.{arith}
use Rattle.std.proofs.lemmas.List.{length-replicate, get_or-replicate}
use Rattle.std.proofs.Math.Dec.{eqb}
use borrow.Author.Tests.{lt-ltb, le-ltb, ltb-true, ltb-false, eq-eqb, ne_eqb, eqb-true, eqb-false, not-true, not-false}
use Rattle.paper.specs.Limits.{max_nodes}
use Rattle.general.specs.Cases.{contra, cases, both, all3, either, or_right, not_so, same_test}
use Rattle.general.specs.Below.{some, some_of, some-none, first, first-none, tally, tally-less}
use Rattle.closure.specs.Closure.{Way, hop, via, trans, wider}
use Rattle.records.specs.Image.{nodes, parent_of, Whole}
use Rattle.nesting.specs.Nesting.{parent, nested, at_or_above, on_loop_at, nested-so}

-- c is a node, and g is c or lies above it
unfoldable pub from_up : List ℕ → ℕ → ℕ → Bool
from_up image c g = ltb c (nodes image) && at_or_above image c g

-- how far the climb from c can go: the measure of a walk
unfoldable pub steps : List ℕ → ℕ → ℕ
steps image c = cond (ltb c (nodes image)) (suc (tally (nodes image) (nested image c))) 0

-- no node lies on a loop
abbrev pub Straight : List ℕ → Type 0
Straight image = (a : ℕ) → a < nodes image → on_loop_at image a ≡ false

module _ (image : List ℕ) where
  -- a chain of parents that ends
  pub data Free : ℕ → Type 0 where
    top : {a : ℕ} → nodes image ≤ a → Free a
    up : {a : ℕ} → a < nodes image → Free (parent_of image a) → Free a

  pub parent_is : (a b : ℕ) → parent image a b ≡ true → (a < nodes image) × (b < nodes image) × (parent_of image a ≡ b)
  unfolding parent
  parent_is a b e =
      let t = all3 (ltb a (nodes image)) (ltb b (nodes image)) (eqb (parent_of image a) b) e in
      (ltb-true a (nodes image) t.0, ltb-true b (nodes image) t.1, eqb-true (parent_of image a) b t.2)

  pub is-parent : (a p : ℕ) → a < nodes image → p < nodes image → p ≡ parent_of image a → parent image a p ≡ true
  unfolding parent
  is-parent a p h l q = rw (lt-ltb a (nodes image) h, lt-ltb p (nodes image) l, eq-eqb (parent_of image a) p (sym q))

  -- what lies below a node lies below its parent
  nested-up : (x a p : ℕ) → nested image x a ≡ true → a < nodes image → p < nodes image → p ≡ parent_of image a → nested image x p ≡ true
  unfolding nested
  nested-up x a p e h l q = trans (parent image) (nodes image) x a p h e (wider (parent image) (nodes image) a p (is-parent a p h l q))

  pub from-none : (c g : ℕ) → nodes image ≤ c → from_up image c g ≡ false
  unfolding from_up
  from-none c g h = rw (le-ltb c (nodes image) h)

  onward : {a g : ℕ} → Way (parent image) a g → from_up image (parent_of image a) g ≡ true
  unfolding from_up at_or_above
  onward (hop {a} {b} e) = let t = parent_is a b e in rw (t.2, lt-ltb b (nodes image) t.1, eq-eqb b b refl)
  onward (via {a} {c} {b} e w) = let t = parent_is a c e in rw (t.2, lt-ltb c (nodes image) t.1) (or_right (eqb c b) (nested image c b) ((nested-so image c b).1 w))

  -- what lies above a node is its parent, or lies above that
  pub nested-step : (a g : ℕ) → a < nodes image → nested image a g ≡ from_up image (parent_of image a) g
  unfolding from_up at_or_above
  nested-step a g h =
      let p : ℕ = parent_of image a in
      same_test (nested image a g) (from_up image p g) (λ e. onward ((nested-so image a g).0 e))
      (λ e.
      let t = both (ltb p (nodes image)) (eqb p g || nested image p g) e in
      let i = is-parent a p h (ltb-true p (nodes image) t.0) refl in
      (nested-so image a g).1 (either (eqb p g) (nested image p g) t.1
      (λ x. rw (← eqb-true p g x) (hop i)) (λ x. via i ((nested-so image p g).0 x))))

  pub from_step : (c p g : ℕ) → c < nodes image → p ≡ parent_of image c → from_up image c g ≡ (eqb c g || from_up image p g)
  unfolding from_up at_or_above
  from_step c p g h q = rw (lt-ltb c (nodes image) h, q, nested-step c g h)

  -- a node on a loop has a parent on one, so a chain that ends is never on one
  pub free-straight : (a : ℕ) → Free a → on_loop_at image a ≡ false
  unfolding on_loop_at from_up at_or_above
  free-straight a (top h) = not_so (λ e. start-in ((nested-so image a a).0 e) h)
    where
      start-in : {a b : ℕ} → Way (parent image) a b → nodes image ≤ a → ⊥
      start-in (hop {a} {b} e) h = let t = parent_is a b e in omega arith
      start-in (via {a} {c} {b} e w) h = let t = parent_is a c e in omega arith
  free-straight a (up h f) =
      not_so (λ e.
      let p : ℕ = parent_of image a in
      let t = both (ltb p (nodes image)) (eqb p a || nested image p a) (sym (nested-step a a h) ∙ e) in
      either (eqb p a) (nested image p a) t.1
      (λ x. contra (rw (← eqb-true p a x) at e) (free-straight p f))
      (λ x. contra (nested-up p a p x h (ltb-true p (nodes image) t.0) refl) (free-straight p f)))

  pub steps-fall : {n k c p : ℕ} → Whole image n k → Straight image → c < n → p ≡ parent_of image c → steps image p < steps image c
  unfolding steps on_loop_at from_up at_or_above
  steps-fall {n} {k} {c} {p} w s l q =
      let h : c < nodes image = let e = w.nodes in omega arith in
      rw (lt-ltb c (nodes image) h) (cases (ltb p (nodes image))
      (λ t.
      let l = ltb-true p (nodes image) t in
      let above : (g : ℕ) → nested image c g ≡ (eqb p g || nested image p g) = λ g. nested-step c g h ∙ rw (← q, t) in
      let e = tally-less (nodes image) (nested image c) (nested image p) p l (above p ∙ rw (eq-eqb p p refl)) (s p l) (λ g i n. above g ∙ rw (ne_eqb p g (λ z. n (sym z)))) in
      rw t (omega arith))
      (λ t. rw t (omega arith)))

-- ---- stamps: a walk over the nodes that climbs from each, and stamps those that have no stamp yet

-- the walk has climbed from the first a nodes
pub record Stamps (image : List ℕ) (n a : ℕ) (stamps : List ℕ) : Type 0 where
  pub size : length stamps ≡ max_nodes
  pub free : (x : ℕ) → x < n → get_or stamps x 0 ≢ 0 → Free image x
  pub old : (x : ℕ) → x < n → get_or stamps x 0 ≤ a
  pub done : (x : ℕ) → x < a → get_or stamps x 0 ≢ 0

-- the climb from a has come to c: what the stamp s says of node x
pub record Known (image : List ℕ) (a c x s : ℕ) : Type 0 where
  pub bare : s ≡ 0 → x ≤ a → c ≡ x
  pub old : s ≤ a + 1
  pub free : s ≢ 0 → Free image c → Free image x
  pub older : s ≢ 0 → s ≢ a + 1 → Free image x
  pub below : s ≡ a + 1 → c < nodes image → nested image x c ≡ true

pub record Climb (image : List ℕ) (n a c : ℕ) (stamps : List ℕ) : Type 0 where
  pub size : length stamps ≡ max_nodes
  pub each : (x : ℕ) → x < n → Known image a c x (get_or stamps x 0)

-- how the climb from a ends
pub record Climbed (image : List ℕ) (n a : ℕ) (stamps : List ℕ) (r : Bool) : Type 0 where
  pub on : r ≡ true → Stamps image n (a + 1) stamps
  pub off : r ≡ false → some n (on_loop_at image) ≡ true

-- the nodes that have no stamp
abbrev pub blank : List ℕ → ℕ → Bool
blank stamps x = eqb (get_or stamps x 0) 0

pub stamps-none : (image : List ℕ) (n k : ℕ) → Whole image n k → Stamps image n 0 (replicate max_nodes 0)
stamps-none image n k w =
    let zero-at : (x : ℕ) → x < n → get_or {A = ℕ} (replicate max_nodes 0) x 0 ≡ 0 = λ x h. get_or-replicate {A = ℕ} max_nodes x 0 0 (let f = w.few in omega arith) in
    record {
      size = length-replicate {A = ℕ} max_nodes 0;
      free = λ x h s. absurd (s (zero-at x h));
      old = λ x h. let z = zero-at x h in omega arith;
      done = λ x h. absurd (omega arith);
    }

module _ {image : List ℕ} {n k a : ℕ} (w : Whole image n k) where
  pub climb-none : {stamps : List ℕ} → Stamps image n a stamps → Climb image n a a stamps
  climb-none {stamps} m =
      record {
        size = m.size;
        each = λ x h.
            let o = m.old x h in
            record {
              bare = λ z l. cases (ltb x a) (λ t. absurd (m.done x (ltb-true x a t) z)) (λ t. let g = ltb-false x a t in omega arith);
              old = omega arith;
              free = λ s f. m.free x h s;
              older = λ s t. m.free x h s;
              below = λ s. absurd (omega arith);
            };
      }

  module _ {c : ℕ} {stamps : List ℕ} (m : Climb image n a c stamps) where
    pub climb-more : {p : ℕ} → c < n → p ≡ parent_of image c → Climb image n a p (set stamps c (a + 1))
    climb-more {p} h q =
        let e = w.nodes in
        let f = w.few in
        let z = m.size in
        let l : c < nodes image = omega arith in
        record {
          size = length-set stamps c (a + 1) ∙ z;
          each = λ x i.
              cases (eqb x c)
              (λ t. rw (eqb-true x c t, get_or-set_same stamps c (a + 1) 0 (omega arith))
              (record {
                bare = λ s. absurd (omega arith);
                old = omega arith;
                free = λ s f. up l (rw q at f);
                older = λ s t. absurd (t refl);
                below = λ s j. (nested-so image c p).1 (hop (is-parent image c p l j q));
              }))
              (λ t. rw (get_or-set_other stamps c x (a + 1) 0 (eqb-false x c t))
              (let o = m.each x i in
              record {
                bare = λ s j. absurd (eqb-false x c t (sym (o.bare s j)));
                old = o.old;
                free = λ s f. o.free s (up l (rw q at f));
                older = o.older;
                below = λ s j. nested-up image x c p (o.below s l) l j q;
              }));
        }

    -- one more node has its stamp
    pub climb-less : c < n → get_or stamps c 0 ≡ 0 → tally n (blank (set stamps c (a + 1))) < tally n (blank stamps)
    climb-less h e =
        let f = w.few in
        let z = m.size in
        let t = tally-less n (blank stamps) (blank (set stamps c (a + 1))) c h (eq-eqb (get_or stamps c 0) 0 e)
        (rw (get_or-set_same stamps c (a + 1) 0 (omega arith)) (ne_eqb (a + 1) 0 (λ x. omega arith)))
        (λ x i o. rw (get_or-set_other stamps c x (a + 1) 0 o)) in
        omega arith

    module _ (l : a < n) where
      -- where c is free, and is no node without a stamp
      climb-free : ((x : ℕ) → x < n → c ≡ x → get_or stamps x 0 ≢ 0) → Free image c → Stamps image n (a + 1) stamps
      climb-free g f =
          record {
            size = m.size;
            free = λ x h s. (m.each x h).free s f;
            old = λ x h. (m.each x h).old;
            done = λ x h s. let i : x < n = omega arith in g x i ((m.each x i).bare s (omega arith)) s;
          }

      pub climb-end : n ≤ c → Climbed image n a stamps true
      climb-end h =
          let e = w.nodes in
          record { on = λ t. climb-free (λ x i q. absurd (omega arith)) (top (omega arith)); off = λ t. contra refl t }

      pub climb-met : c < n → get_or stamps c 0 ≢ 0 → Climbed image n a stamps (not (eqb (get_or stamps c 0) (a + 1)))
      unfolding on_loop_at
      climb-met h s =
          let q = w.nodes in
          let o = m.each c h in
          let own : Bool = eqb (get_or stamps c 0) (a + 1) in
          record {
            on = λ t. climb-free (λ x i z. rw (← z) s) (o.older s (eqb-false (get_or stamps c 0) (a + 1) (not-true own t)));
            off = λ t. some_of n (on_loop_at image) c h (o.below (eqb-true (get_or stamps c 0) (a + 1) (not-false own t)) (omega arith));
          }

-- ---- the whole walk

pub walk-stopped : {image stamps : List ℕ} {n a : ℕ} {r : Bool} → Climbed image n a stamps r → not r ≡ true → false ≡ not (some n (on_loop_at image))
walk-stopped {r} m t = rw (m.off (not-true r t))

pub walk_more : {image stamps : List ℕ} {n a : ℕ} {r : Bool} → Climbed image n a stamps r → not r ≡ false → Stamps image n (a + 1) stamps
walk_more {r} m t = m.on (not-false r t)

pub walk_end : {image stamps : List ℕ} {n a : ℕ} → Stamps image n a stamps → n ≤ a → true ≡ not (some n (on_loop_at image))
walk_end {image} {n} m h = rw (some-none n (on_loop_at image) (λ x i. free-straight image x (m.free x i (m.done x (omega arith)))))

-- no loop, and so no lowest node on one
pub lowest-none : (image : List ℕ) (n : ℕ) {r : Bool} → r ≡ not (some n (on_loop_at image)) → r ≡ true → n ≡ first n (on_loop_at image)
lowest-none image n e t =
    let no = not-true (some n (on_loop_at image)) (sym e ∙ t) in
    first-none n (on_loop_at image) (λ x h. not_so (λ o. contra (some_of n (on_loop_at image) x h o) no))
