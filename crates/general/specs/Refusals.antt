-- A call's table of refusals: the first row that holds gives the answer, and the table tells no other. Assumes nothing.
use Rattle.std.specs.Prelude.{◌≡◌, Bool, true, false, not, cond, ◌↔◌, ◌⊎◌}
use Rattle.std.proofs.Common.{inl, inr}
use Rattle.std.proofs.lemmas.Bool.{not-true, not-false}
use Rattle.general.specs.Cases.{cases, not_so}

-- The rows from one on, over a data type T that tells the answers for a reader. B is what is known where the row is met: that no row above it holds.
-- A row has its test, its answer, that T tells this answer where the test holds, and N, what is known where it does not. The last row has no test.
pub data Refusals {A : Type 0} (T : A → Type 0) : Type 0 → Type 1 where
  otherwise : {B : Type 0} (a : A) → (B → T a) → Refusals T B
  when : {B N : Type 0} (test : Bool) (a : A) → (B → test ≡ true → T a) → ((B × (test ≡ false)) ↔ N) → Refusals T N → Refusals T B

module _ {A : Type 0} {T : A → Type 0} where
  -- a row that refuses where what it asks fails
  abbrev pub unless : {B N : Type 0} (asked : Bool) (a : A) → (B → asked ≡ false → T a) → ((B × (asked ≡ true)) ↔ N) → Refusals T N → Refusals T B
  unless asked a so passed rest =
      when (not asked) a (λ k h. so k (not-true asked h)) (λ k. passed.0 (k.0, not-false asked k.1), λ n. let k = passed.1 n in (k.0, rw k.1)) rest

  -- the answer of the first row whose test holds
  unfoldable pub first_row : {B : Type 0} → Refusals T B → A
  first_row (otherwise a so) = a
  first_row (when test a so passed rest) = cond test a (first_row rest)

  -- x is the answer of a row whose test holds, and what is known there is known: no row above it holds
  unfoldable pub Told : {B : Type 0} → Refusals T B → A → Type 0
  Told (otherwise {B} a so) x = B × (x ≡ a)
  Told (when {B} test a so passed rest) x = (B × (test ≡ true) × (x ≡ a)) ⊎ Told rest x

  -- T tells the first row's answer
  pub first-told : {B : Type 0} (t : Refusals T B) → B → T (first_row t)
  unfolding first_row
  first-told (otherwise a so) b = so b
  first-told (when test a so passed rest) b = cases test (λ h. rw h (so b h)) (λ h. rw h (first-told rest (passed.0 (b, h))))

  told-first : {B : Type 0} (t : Refusals T B) {x : A} → Told t x → B × (x ≡ first_row t)
  unfolding first_row Told
  told-first (otherwise a so) (b, q) = (b, q)
  told-first (when test a so passed rest) (inl (b, h, q)) = (b, rw h q)
  told-first (when test a so passed rest) (inr w) =
      let (n, q) = told-first rest w in
      let (b, h) = passed.1 n in
      (b, rw h q)

  -- and no other answer is told
  pub told-only : {B : Type 0} (t : Refusals T B) {x : A} → Told t x → x ≡ first_row t
  told-only t w = (told-first t w).1

-- what is asked fails, as `unless` tests it
pub not-held : {b : Bool} → (b ≡ true → ⊥) → not b ≡ true
not-held h = rw (not_so h)
