-- A book in which whatever comes before a rule has a lower number: its running order is the counted rules upwards, and a list is that order exactly if
-- it rises, each of its rules counts, and there are as many as count. Assumes nothing.
use Rattle.std.specs.Prelude.{◌≡◌, Bool, ◌&&◌, leb, ltb}
use Rattle.std.proofs.Math.Bool.{true, cond}
use mathlib.Core.List.{List, [], ◌∷◌}
use Prim.Native.Nat.{ℕ, zero, suc, ◌<◌}
use Rattle.order_theory.specs.Order.{Net, Counted, before}

-- whatever comes before a rule has a lower number
abbrev pub Rising : Net → Type 0
Rising N = (p q : ℕ) → Counted N p → Counted N q → before N p q ≡ true → p < q

module _ (N : Net) where
  -- of the j rules from k on, those that count
  unfoldable pub upwards : ℕ → ℕ → List ℕ
  upwards k zero = []
  upwards k (suc j) = cond (N.counts k) (k ∷ upwards (suc k) j) (upwards (suc k) j)

  -- the list rises from k on, and each of its rules counts
  unfoldable pub rises : ℕ → List ℕ → Bool
  rises k [] = true
  rises k (r ∷ l) = (leb k r && (ltb r N.count && N.counts r)) && rises (suc r) l
