-- A loop without a table: what is reached from a mark, spread over the rules until nothing is added. A rule on a loop targets the mark exactly if
-- some rule that targets it refers to what is reached. Assumes nothing.
use Rattle.std.specs.Prelude.{◌≡◌, ◌⊎◌, Bool, true, ℕ}
use Rattle.std.proofs.Common.{inr, ⊎_elim}
use Rattle.closure.specs.Closure.{Way, join}
use Rattle.order_theory.specs.Order.{Net, Counted}
use Rattle.order_theory.specs.Loops.{leads}

module _ (N : Net) where
  -- from a one gets to b by ways, or is there
  abbrev pub Leads : ℕ → ℕ → Type 0
  Leads a b = (a ≡ b) ⊎ Way (leads N) a b

  pub leads-join : (a x b : ℕ) → Leads a x → Leads x b → Leads a b
  leads-join a x b v w = ⊎_elim (λ q. rw q w) (λ u. ⊎_elim (λ q. rw (← q) (inr u)) (λ t. inr (join (leads N) u t)) w) v

  module _ (a : ℕ) where
    -- a itself is reached, nothing that one does not get to from it, and a pass over the rules adds nothing
    pub record Spread (s : ℕ → Bool) : Type 0 where
      pub sound : (b : ℕ) → s b ≡ true → Leads a b
      pub begun : s a ≡ true
      pub closed : (r x : ℕ) → Counted N r → N.refers r x ≡ true → s x ≡ true → s (N.target r) ≡ true

    -- a rule that targets b refers to what is reached
    abbrev pub Back : (ℕ → Bool) → ℕ → Type 0
    Back s b = (r : ℕ) × (x : ℕ) × Counted N r × (N.target r ≡ b) × (N.refers r x ≡ true) × (s x ≡ true)
