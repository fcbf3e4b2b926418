-- Laws of earlier proofs, which stood in specs/: nothing cites them now, and they stand. Assumes nothing.
use Rattle.std.specs.Prelude.{ℕ, ◌≤◌, ◌≡◌, Bool, true, false, not, List, eqb}
use Rattle.std.proofs.Common.{sym, ◌∙◌, arith, eqb-true}
use Rattle.std.proofs.lemmas.Bool.{eqb-false, not-true, not-false}
use Rattle.general.specs.Lists.{flat, packed}
use Rattle.general.specs.Writing.{Ran}
use Rattle.smaller.specs.Loops.{Upto}

-- ---- a loop over the members of a set, while the test says that it is not empty

module _ (s : ℕ) (r : Bool) (p : r ≡ eqb s 0) where
  pub rest_some : not r ≡ true → s ≡ 0 → ⊥
  rest_some t = eqb-false s 0 (sym p ∙ not-true r t)

  pub rest-none : not r ≡ false → s ≡ 0
  rest-none t = eqb-true s 0 (sym p ∙ not-false r t)

-- ---- a loop over the numbers below n: the parts of those passed are run

module _ {A : Type 0} (f : A → List ℕ) (g : ℕ → List A) (n : ℕ) (room₀ : List ℕ) (at k next : ℕ) (room : List ℕ) (inv : Upto f g n room₀ at k next room) where
  pub upto_done : n ≤ k → Ran room₀ at (packed f (flat n g)) next room
  upto_done h = let l : k ≤ n = inv.few in let q : k ≡ n = omega arith in rw (← q) inv.ran
