-- Fit orders by index, as code that reads a slice sees them. Assumes nothing.
use Rattle.std.specs.Prelude.{◌≡◌, refl, false, List, [], ◌∷◌, ℕ, zero, suc, ◌≤◌, ◌<◌, length, get_or}
use Rattle.std.proofs.Common.{sym, subst, inl, inr, arith}
use Rattle.order_theory.specs.Order.{Net, Counted, counted_rules, Mem, Distinct, before, Respects}

-- whatever would stand for an entry past the end
pub mem-any : (l : List ℕ) (i d : ℕ) → i < length l → Mem (get_or l i d) l
mem-any [] i d h = absurd (omega arith)
mem-any (x ∷ l) zero d h = inl refl
mem-any (x ∷ l) (suc i) d h = inr (mem-any l i d (omega arith))

pub mem-at : (l : List ℕ) (i : ℕ) → i < length l → Mem (get_or l i 0) l
mem-at l i h = mem-any l i 0 h

pub at_mem : (l : List ℕ) (q : ℕ) → Mem q l → (i : ℕ) × (i < length l) × (get_or l i 0 ≡ q)
at_mem [] q i = absurd i
at_mem (x ∷ l) q (inl e) = (zero, omega arith, sym e)
at_mem (x ∷ l) q (inr i) = let (j, h, e) = at_mem l q i in (suc j, omega arith, e)

abbrev pub DistinctAt : List ℕ → Type 0
DistinctAt l = (i j : ℕ) → i < j → j < length l → get_or l i 0 ≡ get_or l j 0 → ⊥

pub distinct-at : (l : List ℕ) → Distinct l → DistinctAt l
distinct-at [] x i j h k e = omega arith
distinct-at (r ∷ l) x i zero h k e = omega arith
distinct-at (r ∷ l) x zero (suc j) h k e = x.0 (subst (λ (y : ℕ). Mem y l) (sym e) (mem-at l j (omega arith)))
distinct-at (r ∷ l) x (suc i) (suc j) h k e = distinct-at l x.1 i j (omega arith) (omega arith) e

pub at-distinct : (l : List ℕ) → DistinctAt l → Distinct l
at-distinct [] x = tt
at-distinct (r ∷ l) x = (λ m. let (j, h, e) = at_mem l r m in x zero (suc j) (omega arith) (omega arith) (sym e), at-distinct l (λ i j h k e. x (suc i) (suc j) (omega arith) (omega arith) e))

module _ (N : Net) where
  abbrev pub RespectsAt : List ℕ → Type 0
  RespectsAt l = (i j : ℕ) → i ≤ j → j < length l → before N (get_or l j 0) (get_or l i 0) ≡ false

  pub at-respects : (l : List ℕ) → RespectsAt l → Respects N l
  at-respects [] x = tt
  at-respects (r ∷ l) x = (λ q m. let (j, h, e) = at_mem (r ∷ l) q m in rw (← e) (x zero j (omega arith) h), at-respects l (λ i j h k. x (suc i) (suc j) (omega arith) (omega arith)))

  -- what code checks of a lent order
  pub record FitAt (l : List ℕ) : Type 0 where
    pub size : length l ≡ counted_rules N
    pub below : (i : ℕ) → i < length l → Counted N (get_or l i 0)
    pub distinct : DistinctAt l
    pub respects : RespectsAt l
