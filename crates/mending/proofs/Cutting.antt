-- The walk of step 3 is the loop that the request tells: it ends, and takes one parent from each loop. Assumes nothing.
use Prim.Native.Nat.{ℕ, zero, suc, ◌+◌, ◌≤◌, ◌<◌}
use Rattle.std.specs.Prelude.{◌≡◌, ◌↔◌, Bool, not, ◌&&◌, ◌||◌, ltb}
use Rattle.std.proofs.Common.{sym, ◌∙◌, add-zero, zero-add}
use Rattle.std.proofs.Math.Path.{ap, subst}
use Rattle.std.proofs.Math.Bool.{true, false, cond, and-false, or-false, or-true}
use mathlib.Core.List.{List, [], ◌∷◌, ◌++◌, append_assoc, append-nil}
use Rattle.std.proofs.Math.Numerals.{add-one}
use native.Mathlib.Omega.{arith}
use Rattle.std.proofs.Math.Dec.{eqb}
use borrow.Author.Tests.{lt-ltb, le-ltb, ltb-true, ltb-false, eqb-true, eqb-false, not-true}
use Rattle.paper.specs.Limits.{no_parent}
use Rattle.general.specs.Cases.{contra, cases, both, not_so}
use Rattle.general.specs.Below.{some, some_of, some-none, Lowest}
use Rattle.general.specs.Lists.{flat}
use Rattle.general.specs.Scan.{ltb-more}
use Rattle.records.specs.Image.{nodes}
use Rattle.nesting.specs.Nesting.{parent, nested, Nested, OnLoop, on_loop_at, nested-so}
use Rattle.nesting.specs.Loops.{left-was, left-whole, whole-left}
use Rattle.nesting.specs.Ahead.{one_parent}
use Rattle.mending.specs.Records.{Records, count, node_in, chart_image}
use Rattle.mending.specs.Mending.{alter, cut_by, cut_at, Cuts, done, cut, lowest_of_loop, loop_mended, step3}
use Rattle.mending.specs.Images.{image-nodes}
use Rattle.mending.specs.Altering.{alter-count, alter-node, alter-same, alter-none, alter-twice}
use Rattle.mending.specs.Cutting.{start-in, LowestOfLoop, lowest-on, parents-cut, cut_nodes}

pub lowest-so : (s : List ℕ) (i : ℕ) → (lowest_of_loop s i ≡ true) ↔ LowestOfLoop s i
unfolding lowest_of_loop on_loop_at
lowest-so s i = (
  λ h. let t = both (nested s i i) (not (some i (nested s i))) h in
      record { on = (nested-so s i i).0 t.0; lowest = λ j l w. contra (some_of i (nested s i) j l ((nested-so s i j).1 w)) (not-true _ t.1) },
  λ l. rw ((nested-so s i i).1 l.on, some-none i (nested s i) (λ j h. not_so (λ t. l.lowest j h ((nested-so s i j).0 t)))),
)

-- what step 3 alters is the lowest of its loop
pub cut-lowest : (r : Records) (i : ℕ) → i < count r → (node_in (step3 r) i ≡ node_in r i → ⊥) → LowestOfLoop (chart_image r) i
unfolding cut_by
cut-lowest r i h n =
    cases (lowest_of_loop (chart_image r) i) (λ t. (lowest-so (chart_image r) i).0 t) (λ t. absurd (n (alter-node (loop_mended r) r i h ∙ rw t)))

-- ---- nodes that lose their parents

module _ (r : Records) where
  -- one more node loses its parent
  cut-more : (m : ℕ → Bool) (k : ℕ) (m' : ℕ → Bool) → ((i : ℕ) → m' i ≡ (m i || eqb i k)) → cut_at k (alter (cut_by m) r) ≡ alter (cut_by m') r
  unfolding cut_by
  cut-more m k m' h =
      alter-twice (cut_by m) (cut_by (λ j. eqb j k)) r ∙ alter-same (λ i x. cut_by (λ j. eqb j k) i (cut_by m i x)) r (cut_by m')
      (λ i l. rw (h i) (cases (m i) (λ t. cases (eqb i k) (λ u. rw (t, u)) (λ u. rw (t, u))) (λ t. rw t)))

-- ---- the loop that the request tells

-- the numbers from k on, d of them, that pass
unfoldable passing : (ℕ → Bool) → ℕ → ℕ → List ℕ
passing f zero k = []
passing f (suc d) k = cond (f k) (k ∷ passing f d (suc k)) (passing f d (suc k))

passing-flat : (f : ℕ → Bool) (d k : ℕ) → flat (k + d) (λ i. cond (f i) (i ∷ []) []) ≡ flat k (λ i. cond (f i) (i ∷ []) []) ++ passing f d k
unfolding passing flat
passing-flat f zero k = rw (add-zero, append-nil)
passing-flat f (suc d) k =
    let g : ℕ → List ℕ = λ i. cond (f i) (i ∷ []) [] in
    let e : k + suc d ≡ suc k + d = omega arith in
    rw e (passing-flat f d (suc k) ∙ append_assoc (flat k g) (g k) (passing f d (suc k)) ∙ ap (λ (l : List ℕ). flat k g ++ l) (cases (f k) (λ t. rw t) (λ t. rw t)))

module _ (r : Records) (few : count r ≤ no_parent) where
  abbrev image : List ℕ
  image = chart_image r

  -- the lowest of the loops are cut below k
  unfoldable cut_below : ℕ → ℕ → Bool
  cut_below k i = ltb i k && lowest_of_loop image i

  abbrev below : ℕ → Records
  below k = alter (cut_by (cut_below k)) r

  below-parents : (k a b : ℕ) → parent (chart_image (below k)) a b ≡ (parent image a b && not (cut_below k a))
  below-parents k = parents-cut r few (cut_below k)

  -- no loop that is left has a node below k
  none_below : (k p : ℕ) → p < k → OnLoop (chart_image (below k)) p → ⊥
  unfolding cut_below
  none_below k p h l =
      let (j, b, w, o) = lowest-on image p (left-was (parent image) (one_parent image) (parent (chart_image (below k))) (cut_below k) (below-parents k) l) in
      let z : cut_below k j ≡ false = left-whole (parent image) (one_parent image) (parent (chart_image (below k))) (cut_below k) (below-parents k) l w in
      let y : cut_below k j ≡ true = rw (lt-ltb j k (omega arith), (lowest-so image j).1 o) in
      contra y z

  -- and the loop of the next to be cut is whole
  next-cut : (k : ℕ) → k < count r → LowestOfLoop image k → Lowest (count (below k)) (OnLoop (chart_image (below k))) k
  unfolding cut_below
  next-cut k h o =
      let unmarked : (j : ℕ) → Nested image k j → cut_below k j ≡ false =
      λ j w. rw (le-ltb j k (cases (ltb j k) (λ t. absurd (o.lowest j (ltb-true j k t) w)) (λ t. ltb-false j k t))) in
      record {
        fits = rw (alter-count (cut_by (cut_below k)) r) h;
        holds = whole-left (parent image) (one_parent image) (parent (chart_image (below k))) (cut_below k) (below-parents k) (unmarked k o.on) unmarked o.on;
        least = none_below k;
      }

  below_more : (k : ℕ) → lowest_of_loop image k ≡ true → (i : ℕ) → cut_below (suc k) i ≡ (cut_below k i || eqb i k)
  unfolding cut_below
  below_more k t i =
      cases (eqb i k)
      (λ u. rw (u, eqb-true i k u, t, lt-ltb k (suc k) (omega arith)) (sym (or-true (ltb k k && true))))
      (λ u. rw (u, ← add-one k, ltb-more i k (eqb-false i k u)) (sym (or-false (ltb i k && lowest_of_loop image i))))

  below-same : (k : ℕ) → lowest_of_loop image k ≡ false → below (suc k) ≡ below k
  unfolding cut_below cut_by
  below-same k t =
      alter-same (cut_by (cut_below (suc k))) r (cut_by (cut_below k))
      (λ i h. cases (eqb i k) (λ u. rw (eqb-true i k u, t, and-false (ltb k k), and-false (ltb k (suc k)))) (λ u. rw (← add-one k, ltb-more i k (eqb-false i k u))))

  cuts-from : (d k : ℕ) → k + d ≡ count r → Cuts (below k) (passing (lowest_of_loop image) d k) (below (count r))
  unfolding passing
  cuts-from zero k e =
      let q : k ≡ count r = omega arith in
      rw q (done (λ i l.
      let b = start-in (chart_image (below (count r))) l in
      let e : nodes (chart_image (below (count r))) ≡ count r = image-nodes (below (count r)) ∙ alter-count (cut_by (cut_below (count r))) r in
      none_below (count r) i (omega arith) l))
  cuts-from (suc d) k e =
      let rest : Cuts (below (suc k)) (passing (lowest_of_loop image) d (suc k)) (below (count r)) = cuts-from d (suc k) (omega arith) in
      cases (lowest_of_loop image k)
      (λ t.
      let more : Cuts (cut_at k (below k)) (passing (lowest_of_loop image) d (suc k)) (below (count r)) =
      rw (cut-more r (cut_below k) k (cut_below (suc k)) (below_more k t)) rest in
      rw t (cut (next-cut k (omega arith) ((lowest-so image k).0 t)) more))
      (λ t. rw t (rw (← below-same k t) rest))

  -- "while parents loop, the lowest node on a loop loses its parent": this ends, and is what step 3 does
  pub cuts-so : Cuts r (cut_nodes r) (step3 r)
  unfolding cut_nodes cut_below cut_by flat
  cuts-so =
      let g : ℕ → List ℕ = λ i. cond (lowest_of_loop image i) (i ∷ []) [] in
      let a : below 0 ≡ r = alter-none (cut_by (cut_below 0)) r (λ i h. rw (le-ltb i 0 (omega arith))) in
      let b : below (count r) ≡ step3 r = alter-same (cut_by (cut_below (count r))) r (loop_mended r) (λ i h. rw (lt-ltb i (count r) h)) in
      let l : flat (count r) g ≡ passing (lowest_of_loop image) (count r) 0 =
      ap (λ (n : ℕ). flat n g) (sym (zero-add (count r))) ∙ passing-flat (lowest_of_loop image) (count r) 0 in
      let c : Cuts (below 0) (passing (lowest_of_loop image) (count r) 0) (below (count r)) = cuts-from (count r) 0 (zero-add (count r)) in
      subst (λ (x : List ℕ). Cuts r x (step3 r)) (sym l) (subst (λ (x : Records). Cuts r (passing (lowest_of_loop image) (count r) 0) x) b
      (subst (λ (x : Records). Cuts x (passing (lowest_of_loop image) (count r) 0) (below (count r))) a c))
