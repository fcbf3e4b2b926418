-- Any two fit orders of the counted rules end alike, and no mark changes twice. Assumes nothing.
use Rattle.std.specs.Prelude.{◌≡◌, Bool, false, cond, ◌&&◌, ℕ, ◌+◌, eqb}
use Rattle.std.proofs.Math.Path.{refl}
use Rattle.std.proofs.Math.Bool.{true}
use mathlib.Core.List.{List, [], ◌∷◌}
pub use Rattle.paper.specs.Snapshots.{Snap}
use Rattle.order_theory.specs.Order.{Net, Counted}

-- what the rules do, where the start and the completed stage are given: a rule's firing hangs on the marks that it refers to
pub record Acts (N : Net) : Type 0 where
  pub effect : ℕ → Bool
  pub fires : Snap → ℕ → Bool
  pub local : (s t : Snap) (r : ℕ) → ((m : ℕ) → N.refers r m ≡ true → s m ≡ t m) → fires s r ≡ fires t r

unfoldable pub flips : Bool → Bool → ℕ
flips true true = 0
flips true false = 1
flips false true = 1
flips false false = 0

pub flips-same : (a b : Bool) → b ≡ a → flips a b ≡ 0
unfolding flips
flips-same true b e = rw e
flips-same false b e = rw e

-- a change counts 1
pub flips-differ : (a b : Bool) → (a ≡ b → ⊥) → flips a b ≡ 1
unfolding flips
flips-differ true true n = absurd (n refl)
flips-differ true false n = refl
flips-differ false true n = refl
flips-differ false false n = absurd (n refl)

module _ (N : Net) (A : Acts N) where
  -- "A firing rule sets or clears its target."
  unfoldable pub step : Snap → ℕ → Snap
  step s r m = cond (eqb m (N.target r) && A.fires s r) (A.effect r) (s m)

  -- a completion goes through a given order
  unfoldable pub run : Snap → List ℕ → Snap
  run s [] = s
  run s (r ∷ l) = run (step s r) l

  -- how often the mark m changes along l
  unfoldable pub changes : Snap → List ℕ → ℕ → ℕ
  changes s [] m = 0
  changes s (r ∷ l) m = flips (s m) (step s r m) + changes (step s r) l m

  -- no two counted rules fire together with opposite effects on one mark
  abbrev pub Calm : Type 0
  Calm = (F : Snap) (p q : ℕ) → Counted N p → Counted N q → N.target p ≡ N.target q → A.fires F p ≡ true → A.fires F q ≡ true → A.effect p ≡ A.effect q

  -- F is what the counted rules make of s, whatever the order: those that fire in F itself have written F, and nothing else has
  pub record Settled (s F : Snap) : Type 0 where
    pub wrote : (r : ℕ) → Counted N r → A.fires F r ≡ true → F (N.target r) ≡ A.effect r
    pub stayed : (m : ℕ) → ((r : ℕ) → Counted N r → N.target r ≡ m → A.fires F r ≡ false) → F m ≡ s m
