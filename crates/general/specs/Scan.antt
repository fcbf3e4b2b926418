-- A scan upwards for the first number below n that passes a test: what it has passed, and where it stops. Assumes nothing.
use Rattle.std.specs.Prelude.{ℕ, ◌+◌, ◌≤◌, ◌<◌, ◌≡◌, Bool, true, false, ltb}
use Rattle.std.proofs.Common.{sym, subst, ◌∙◌, arith, lt-ltb, ltb-true, below_more}
use Rattle.general.specs.Cases.{same_test}
use Rattle.general.specs.Below.{first, first_found, first-none}

-- the scan has come to i, and no number before it passes
pub record Passed (n : ℕ) (f : ℕ → Bool) (i : ℕ) : Type 0 where
  pub fits : i ≤ n
  pub none : (p : ℕ) → p < i → f p ≡ false

module _ {n : ℕ} {f : ℕ → Bool} where
  pub passed_none : Passed n f 0
  passed_none = record { fits = omega arith; none = λ p h. absurd (omega arith) }

  module _ {i : ℕ} (l : Passed n f i) where
    pub passed-more : {r : Bool} → i < n → r ≡ f i → r ≡ false → Passed n f (i + 1)
    passed-more h e z = record { fits = omega arith; none = below_more (λ (p : ℕ). f p ≡ false) i l.none (sym e ∙ z) }

    pub passed-found : {r : Bool} → i < n → r ≡ f i → r ≡ true → i ≡ first n f
    passed-found h e t = first_found n f i h l.none (sym e ∙ t)

    pub passed-end : n ≤ i → n ≡ first n f
    passed-end h = first-none n f (λ p k. l.none p (omega arith))

-- a loop that counts up has come to its end
pub at-end : (P : ℕ → Type 0) {i n : ℕ} → i ≤ n → n ≤ i → P i → P n
at-end P {i} {n} h l p = let e : i ≡ n = omega arith in subst P e p

-- one more changes the test of no other
pub ltb-more : (x a : ℕ) → (x ≡ a → ⊥) → ltb x (a + 1) ≡ ltb x a
ltb-more x a n = same_test (ltb x (a + 1)) (ltb x a) (λ t. let h = ltb-true x (a + 1) t in lt-ltb x a (omega arith)) (λ t. let h = ltb-true x a t in lt-ltb x (a + 1) (omega arith))
