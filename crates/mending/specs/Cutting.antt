-- The walk of step 3 is the loop that the request tells: it ends, and takes one parent from each loop. Assumes nothing.
use Prim.Native.Nat.{ℕ, ◌≤◌, ◌<◌}
use Rattle.std.specs.Prelude.{◌≡◌, refl, Bool, not, ◌&&◌, ltb}
use Rattle.std.proofs.Common.{sym, ap₂, ◌∙◌}
use Rattle.std.proofs.Math.Bool.{true, cond, and-false, and-true}
use mathlib.Core.List.{List, [], ◌∷◌}
use native.Mathlib.Omega.{arith}
use Rattle.std.proofs.Math.Dec.{eqb}
use borrow.Author.Tests.{ltb-true, ltb-false, ne_eqb}
use Rattle.paper.specs.Limits.{no_parent}
use Rattle.general.specs.Cases.{contra, cases}
use Rattle.general.specs.Below.{first, first-is, lowest-one}
use Rattle.general.specs.Lists.{flat}
use Rattle.closure.specs.Closure.{Way, hop, via, join}
use Rattle.records.specs.Image.{nodes}
use Rattle.nesting.specs.Nesting.{parent, nested, Nested, OnLoop, nested-so}
use Rattle.nesting.specs.Climbing.{parent_is}
use Rattle.nesting.specs.Loops.{loop-back, loop-on}
use Rattle.nesting.specs.Ahead.{one_parent}
use Rattle.mending.specs.Records.{Records, count, node_in, chart_image}
use Rattle.mending.specs.Mending.{alter, cut_by, Cuts, done, cut, lowest_of_loop}
use Rattle.mending.specs.Altering.{alter-count, alter-node, parent-of}

-- ---- the parents of an image

-- a way starts at a node
pub start-in : (s : List ℕ) {a b : ℕ} → Way (parent s) a b → a < nodes s
start-in s (hop {a} {b} e) = (parent_is s a b e).0
start-in s (via {a} {c} e w) = (parent_is s a c e).0

-- the lowest of its loop
pub record LowestOfLoop (s : List ℕ) (i : ℕ) : Type 0 where
  pub on : OnLoop s i
  pub lowest : (j : ℕ) → j < i → Nested s i j → ⊥

-- each loop has its lowest, at most as high as any node on it
pub lowest-on : (s : List ℕ) (p : ℕ) → OnLoop s p → (j : ℕ) × (j ≤ p) × Nested s p j × LowestOfLoop s j
lowest-on s p l =
    let n : ℕ = nodes s in
    let j : ℕ = first n (nested s p) in
    let f = first-is n (nested s p) in
    let h : p < n = start-in s l in
    let own : nested s p p ≡ true = (nested-so s p p).1 l in
    let b : j ≤ p = cases (ltb p j) (λ t. contra own (f.lowest p (ltb-true p j t))) (λ t. ltb-false p j t) in
    let w : Nested s p j = (nested-so s p j).0 (f.passes (omega arith)) in (
      j,
      b,
      w,
      record {
        on = loop-on (parent s) (one_parent s) l w;
        lowest = λ q i v. contra ((nested-so s p q).1 (join (parent s) w v)) (f.lowest q i);
      },
    )

-- "at most one removal for each loop"
pub one-a-loop : (s : List ℕ) (i j : ℕ) → LowestOfLoop s i → LowestOfLoop s j → Nested s i j → i ≡ j
one-a-loop s i j a b w =
    cases (ltb i j) (λ t. absurd (b.lowest i (ltb-true i j t) (loop-back (parent s) (one_parent s) a.on w)))
    (λ t. cases (ltb j i) (λ u. absurd (a.lowest j (ltb-true j i u) w)) (λ u. let x = ltb-false i j t in let y = ltb-false j i u in omega arith))

-- ---- nodes that lose their parents

module _ (r : Records) where
  pub parents-cut : count r ≤ no_parent → (m : ℕ → Bool) (a b : ℕ) → parent (chart_image (alter (cut_by m) r)) a b ≡ (parent (chart_image r) a b && not (m a))
  unfolding cut_by
  parents-cut f m a b =
      parent-of (alter (cut_by m) r) a b ∙ rw (parent-of r a b, alter-count (cut_by m) r) (cases (ltb a (count r))
      (λ t. cases (ltb b (count r))
      (λ u. let l = ltb-true b (count r) u in rw (t, u, alter-node (cut_by m) r a (ltb-true a (count r) t))
      (cases (m a) (λ v. rw (v, ne_eqb no_parent b (λ e. omega arith)) (sym (and-false (eqb (node_in r a).parent b))))
      (λ v. rw v (sym (and-true (eqb (node_in r a).parent b))))))
      (λ u. rw (t, u))) (λ t. rw t))

-- the nodes that step 3 takes their parents from, lowest first
unfoldable pub cut_nodes : Records → List ℕ
cut_nodes r = flat (count r) (λ i. cond (lowest_of_loop (chart_image r) i) (i ∷ []) [])

-- and nothing else is
pub cuts-one : {r s t : Records} {k l : List ℕ} → Cuts r k s → Cuts r l t → (k ≡ l) × (s ≡ t)
cuts-one (done n) (done m) = (refl, refl)
cuts-one (done n) (cut {i} h c) = absurd (n i h.holds)
cuts-one (cut {i} h c) (done m) = absurd (m i h.holds)
cuts-one (cut {r} {i} h c) (cut {i = j} g d) =
    let e : i ≡ j = lowest-one (count r) (OnLoop (chart_image r)) i j h g in
    let t = cuts-one c (rw (← e) at d) in
    (ap₂ (λ (x : ℕ) (l : List ℕ). x ∷ l) e t.0, t.1)
