-- Fit orders by index, as code that reads a slice sees them. Assumes nothing.
use Rattle.std.specs.Prelude.{◌↔◌, List, [], ◌∷◌, ℕ, zero, suc, get_or}
use Rattle.std.proofs.Common.{arith}
use Rattle.order_theory.specs.Order.{Net, Counted, Mem, Respects, Fit}
use Rattle.order_theory.specs.Written.{each-listed, listed-length}
use Rattle.order_theory.specs.Index.{mem-at, at_mem, distinct-at, at-distinct, RespectsAt, at-respects, FitAt}

module _ (N : Net) where
  pub respects-at : (l : List ℕ) → Respects N l → RespectsAt N l
  respects-at [] x i j h k = absurd (omega arith)
  respects-at (r ∷ l) x zero j h k = x.0 (get_or (r ∷ l) j 0) (mem-at (r ∷ l) j k)
  respects-at (r ∷ l) x (suc i) zero h k = absurd (omega arith)
  respects-at (r ∷ l) x (suc i) (suc j) h k = respects-at l x.1 i j (omega arith) (omega arith)

  pub fit_at : (l : List ℕ) → Fit N l ↔ FitAt N l
  fit_at l = (
    λ x. record {
      size = listed-length N.count N.counts l x.distinct x.below x.whole;
      below = λ i h. x.below (get_or l i 0) (mem-at l i h);
      distinct = distinct-at l x.distinct;
      respects = respects-at l x.respects;
    },
    λ x. record {
      below = low x;
      whole = each-listed N.count N.counts l x.size (at-distinct l x.distinct) (low x);
      distinct = at-distinct l x.distinct;
      respects = at-respects N l x.respects;
    },
  )
    where
      low : FitAt N l → (q : ℕ) → Mem q l → Counted N q
      low x q m = let (j, h, e) = at_mem l q m in rw (← e) (x.below j h)
