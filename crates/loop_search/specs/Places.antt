-- The mark that a refused loop is named by: the lowest over all stages. Assumes nothing.
use Rattle.std.specs.Prelude.{◌≡◌, refl, ◌↔◌, cond, leb, ltb, length, Some, None}
use Rattle.std.proofs.Common.{sym}
use Rattle.std.proofs.Math.Path.{subst}
use Prim.Native.Nat.{ℕ, zero, suc, ◌≤◌, ◌<◌}
use native.Mathlib.Omega.{arith}
use borrow.Author.Tests.{leb-true, leb-false, ltb-true, ltb-false, lt-ltb, le-ltb}
use Rattle.general.specs.Cases.{cases, lt-suc}
use Rattle.general.specs.Below.{first-is, found}
use Rattle.closure.specs.Closure.{within}
use Rattle.order_theory.specs.Order.{OnLoop, NoLoop}
use Rattle.order_theory.specs.Loops.{leads, loop_mark}
use Rattle.order_theory.proofs.Loops.{loop-mark}
use Rattle.book.specs.Book.{Book, rule_of}
use Rattle.rule_order.specs.Rules.{net_of}

-- the lowest mark targeted by a rule on a loop among the rules counted for a stage, or M
unfoldable pub stage_place : Book → ℕ → ℕ
stage_place b stage = loop_mark (net_of b stage) b.marks

unfoldable pub lesser : ℕ → ℕ → ℕ
lesser x y = cond (leb x y) x y

-- the lowest of the places of the stages below k, or M
unfoldable pub place_below : Book → ℕ → ℕ
place_below b zero = b.marks
place_below b (suc k) = lesser (place_below b k) (stage_place b k)

-- the mark that the refusal names, or M: "25 names the lowest mark over all stages"
unfoldable pub loop_place : Book → ℕ
loop_place b = place_below b b.stages

-- ---- a place, or none where it is M

pub found-some : (k n m : ℕ) → m ≡ n → m < k → Some m ≡ found k n
found-some k n m e h = rw (← e, lt-ltb m k h)

pub found-none : (k n : ℕ) → k ≡ n → None ≡ found k n
found-none k n e = rw (le-ltb n k (omega arith))

-- ---- the lesser of two

pub lesser-one : (P : ℕ → Type 0) (x y : ℕ) → (x ≤ y → P x) → (y ≤ x → P y) → P (lesser x y)
unfolding lesser
lesser-one P x y f g = cases (leb x y) (λ e. rw e (f (leb-true x y e))) (λ e. rw e (g (omega (arith, leb-false x y e))))

pub lesser-fits : (x y : ℕ) → (lesser x y ≤ x) × (lesser x y ≤ y)
lesser-fits x y = lesser-one (λ p. (p ≤ x) × (p ≤ y)) x y (λ i. (omega arith, omega arith)) (λ i. (omega arith, omega arith))

pub lesser-left : (x y : ℕ) → x ≤ y → lesser x y ≡ x
lesser-left x y h = lesser-one (λ p. p ≡ x) x y (λ i. refl) (λ i. omega arith)

pub lesser-right : (x y : ℕ) → y ≤ x → lesser x y ≡ y
lesser-right x y h = lesser-one (λ p. p ≡ y) x y (λ i. omega arith) (λ i. refl)

-- ---- the places of the stages

module _ (b : Book) where
  pub stage-fits : (stage : ℕ) → stage_place b stage ≤ b.marks
  unfolding stage_place
  stage-fits stage = (first-is b.marks (λ m. within (leads (net_of b stage)) b.marks m m)).fits

  below-fits : (k : ℕ) → place_below b k ≤ b.marks
  unfolding place_below
  below-fits zero = omega arith
  below-fits (suc k) = omega (arith, (lesser-fits (place_below b k) (stage_place b k)).1, stage-fits k)

  pub below-least : (k stage : ℕ) → stage < k → place_below b k ≤ stage_place b stage
  unfolding place_below
  below-least zero stage h = absurd (omega arith)
  below-least (suc k) stage h =
      let f = lesser-fits (place_below b k) (stage_place b k) in
      lt-suc h (λ e. rw e f.1) (λ i. omega (arith, f.0, below-least k stage i))

  below_of : (k : ℕ) → place_below b k < b.marks → (stage : ℕ) × (stage < k) × (place_below b k ≡ stage_place b stage)
  unfolding place_below
  below_of zero h = absurd (omega arith)
  below_of (suc k) h =
      lesser-one (λ p. p < b.marks → (stage : ℕ) × (stage < suc k) × (p ≡ stage_place b stage)) (place_below b k) (stage_place b k)
      (λ i l. let t = below_of k l in (t.0, omega (arith, t.1), t.2)) (λ i l. (k, omega arith, refl)) h

  pub loop-fits : loop_place b ≤ b.marks
  unfolding loop_place
  loop-fits = below-fits b.stages

  module _ (small : (r : ℕ) → r < length b.rules → (rule_of b r).target < b.marks) where
    -- for one stage: what is named is targeted by a rule on a loop, and nothing lower is; nothing is named exactly if there is no loop
    pub stage-place : (stage : ℕ) → ((stage_place b stage < b.marks → OnLoop (net_of b stage) (stage_place b stage))
        × ((m : ℕ) → m < stage_place b stage → OnLoop (net_of b stage) m → ⊥)) × (NoLoop (net_of b stage) ↔ (stage_place b stage ≡ b.marks))
    unfolding stage_place net_of
    stage-place stage = loop-mark (net_of b stage) b.marks (λ r c. small r c.0)

    -- and over all stages: a loop is one among the rules counted for some stage
    pub loop-place : ((loop_place b < b.marks → (stage : ℕ) × (stage < b.stages) × OnLoop (net_of b stage) (loop_place b))
        × ((m stage : ℕ) → m < loop_place b → stage < b.stages → OnLoop (net_of b stage) m → ⊥))
        × (((stage : ℕ) → stage < b.stages → NoLoop (net_of b stage)) ↔ (loop_place b ≡ b.marks))
    unfolding loop_place
    loop-place =
        let S : ℕ = b.stages in (
          (
            λ h. let (stage, i, e) = below_of S h in
                (stage, i, subst (λ (m : ℕ). OnLoop (net_of b stage) m) (sym e) ((stage-place stage).0.0 (omega arith))),
            λ m stage h i. let l = below-least S stage i in (stage-place stage).0.1 m (omega arith),
          ),
          (
            λ n. cases (ltb (place_below b S) b.marks)
                (λ e. let h = ltb-true (place_below b S) b.marks e in
                let (stage, i, p) = below_of S h in
                let q = (stage-place stage).1.0 (n stage i) in
                absurd (omega arith))
                (λ e. omega (arith, ltb-false (place_below b S) b.marks e, below-fits S)),
            λ e stage i. (stage-place stage).1.1 (omega (arith, below-least S stage i, stage-fits stage)),
          ),
        )
