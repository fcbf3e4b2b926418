-- Calls that write a part each, as a function that makes them takes them: what a call asks and what it leaves, for the numbers below n. Assumes nothing.
use Rattle.std.specs.Prelude.{ℕ, zero, suc, ◌<◌, ◌≡◌, List, refl}
use Rattle.std.proofs.Common.{◌∙◌, MutBor}
use Rattle.general.specs.Lists.{flat, packed, packed-append}
use Rattle.general.specs.Writing.{Fits, Wrote}

module _ (n : ℕ) (parts : ℕ → List ℕ) where
  -- a call with a room, a place and a number may be made where the number's part fits behind the place
  abbrev pub Ready : (MutBor (List ℕ) → ℕ → ℕ → Type 0) → Type 0
  Ready pre = (room : MutBor (List ℕ)) (at k : ℕ) → k < n → Fits room.now at (parts k) → pre room at k

  -- and then writes that part
  abbrev pub Puts : (MutBor (List ℕ) → ℕ → ℕ → ℕ → MutBor (List ℕ) → Type 0) → Type 0
  Puts post = (room after : MutBor (List ℕ)) (at k next : ℕ) → k < n → Fits room.now at (parts k) → post room at k next after → Wrote room.now at (parts k) next after.now

-- ---- the bytes of a run of lists, list by list

module _ {A : Type 0} (f : A → List ℕ) (g : ℕ → List A) where
  pub flat-packed : (n : ℕ) → packed f (flat n g) ≡ flat n (λ k. packed f (g k))
  unfolding flat packed
  flat-packed zero = refl
  flat-packed (suc n) = packed-append f (flat n g) (g n) ∙ rw (flat-packed n)

  module _ (n : ℕ) (room : List ℕ) (at : ℕ) where
    pub by_parts : Fits room at (packed f (flat n g)) → Fits room at (flat n (λ k. packed f (g k)))
    by_parts h = rw flat-packed at h

    pub as_one : (next : ℕ) (after : List ℕ) → Wrote room at (flat n (λ k. packed f (g k))) next after → Wrote room at (packed f (flat n g)) next after
    as_one next after w = rw flat-packed w
