-- Numbers given in order to those that pass a test: how many pass below a number, and that each count is the number of exactly one. Assumes nothing.
use Prim.Native.Nat.{ℕ, zero, suc, ◌+◌, ◌≤◌, ◌<◌}
use Rattle.std.specs.Prelude.{◌≡◌, refl, Bool, true, false, ◌&&◌, eqb}
use Rattle.std.proofs.Math.Path.{sym}
use Rattle.std.proofs.Common.{ap, ◌∙◌}
use Rattle.std.proofs.Math.Bool.{cond}
use native.Mathlib.Omega.{arith}
use mir.Val.{bool_byte}
use borrow.Author.Tests.{eq-eqb, eqb-true}
use Rattle.general.specs.Cases.{contra, cases, both, not_so}
use Rattle.general.specs.Below.{tally, tally-step, first, first_found}

module _ (f : ℕ → Bool) where
  pub tally-grows : (i k : ℕ) → i ≤ k → tally i f ≤ tally k f
  unfolding tally
  tally-grows i zero h = let e : i ≡ zero = omega arith in rw e (omega arith)
  tally-grows i (suc k) h =
      cases (eqb i (suc k)) (λ e. rw (eqb-true i (suc k) e) (omega arith))
      (λ e. let n : i ≡ suc k → ⊥ = λ z. contra (eq-eqb i (suc k) z) e in
      let g : tally i f ≤ tally k f = tally-grows i k (omega arith) in omega arith)

  -- one that passes has a lower number than all after it
  pub tally-lt : (i k : ℕ) → i < k → f i ≡ true → tally i f < tally k f
  unfolding tally
  tally-lt i k h e =
      let s : tally (i + 1) f ≡ 1 + tally i f = tally-step i f ∙ rw e in
      let g : tally (i + 1) f ≤ tally k f = tally-grows (i + 1) k (omega arith) in
      omega arith

  -- each number below the count is one's
  pub tally-find : (k e : ℕ) → e < tally k f → (i : ℕ) × (i < k) × (f i ≡ true) × (tally i f ≡ e)
  unfolding tally
  tally-find zero e h = absurd (omega arith)
  tally-find (suc k) e h =
      cases (eqb e (tally k f))
      (λ q. cases (f k) (λ t. (k, omega arith, t, sym (eqb-true e (tally k f) q)))
      (λ t. let z : e ≡ tally k f = eqb-true e (tally k f) q in let y : e < 0 + tally k f = rw t at h in absurd (omega arith)))
      (λ q. let n : e ≡ tally k f → ⊥ = λ z. contra (eq-eqb e (tally k f) z) q in
      let b : cond (f k) 1 0 ≤ 1 = cases (f k) (λ t. rw t (omega arith)) (λ t. rw t (omega arith)) in
      let t = tally-find k e (omega arith) in
      let l = t.1 in
      (t.0, omega arith, t.2, t.3))

  -- the first that passes and has the number e is the one that has it
  pub first-numbered : (n i : ℕ) → i < n → f i ≡ true → first n (λ j. f j && eqb (tally j f) (tally i f)) ≡ i
  first-numbered n i h e =
      sym (first_found n (λ j. f j && eqb (tally j f) (tally i f)) i h
      (λ p l. not_so (λ t. let b = both (f p) (eqb (tally p f) (tally i f)) t in
      let z = tally-lt p i l b.0 in let y = eqb-true (tally p f) (tally i f) b.1 in absurd (omega arith)))
      (rw (e, eq-eqb (tally i f) (tally i f) refl)))

-- a count along a loop: nothing yet, one more, all
pub tally-none : (f : ℕ → Bool) → 0 ≡ tally 0 f
unfolding tally
tally-none f = refl

pub tally-more : (f : ℕ → Bool) (k c : ℕ) → c ≡ tally k f → c + bool_byte (f k) ≡ tally (k + 1) f
tally-more f k c e = let s = tally-step k f in
    cases (f k) (λ t. rw t (let z : tally (k + 1) f ≡ 1 + tally k f = rw t at s in omega arith)) (λ t. rw t (let z : tally (k + 1) f ≡ 0 + tally k f = rw t at s in omega arith))

pub tally-end : (f : ℕ → Bool) (n k c : ℕ) → k ≤ n → n ≤ k → c ≡ tally k f → c ≡ tally n f
tally-end f n k c h l e = let z : k ≡ n = omega arith in e ∙ ap (λ (m : ℕ). tally m f) z

pub byte_le : (b : Bool) → bool_byte b ≤ 1
byte_le true = omega arith
byte_le false = omega arith
