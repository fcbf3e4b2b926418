-- Ready rules by marks, as code that counts the unwritten rules of each mark sees them: a rule is ready exactly if it counts, is unwritten
-- and every mark that it refers to is settled. Only counted rules are waited for. Assumes nothing.
use Rattle.std.specs.Prelude.{◌≡◌, refl, ◌≢◌, Bool, false, ◌&&◌, ℕ, suc}
use Rattle.std.proofs.Common.{sym}
use Rattle.std.proofs.Math.Bool.{and-false}
use Rattle.std.proofs.Math.Dec.{eqb}
use borrow.Author.Tests.{eq-eqb, ne_eqb}
use Rattle.general.specs.Below.{tally}
use Rattle.order_theory.specs.Order.{Net, Counted}
use Rattle.order_theory.specs.Written.{Written, none, write, left, left_less, left-same, left-first}

module _ (N : Net) where
  -- how many counted and unwritten rules target m
  unfoldable pub waiting : Written → ℕ → ℕ
  waiting d m = left (λ p. N.counts p && eqb (N.target p) m) d N.count

  -- m is settled: no counted and unwritten rule targets it
  unfoldable pub is_settled : Written → ℕ → Bool
  is_settled d m = eqb (waiting d m) 0

  pub waiting-first : (m : ℕ) → waiting none m ≡ tally N.count (λ p. N.counts p && eqb (N.target p) m)
  unfolding waiting
  waiting-first m = left-first (λ p. N.counts p && eqb (N.target p) m) N.count

  -- a counted rule that is written leaves one less to its target, and every other mark as it was
  pub waiting-less : (d : Written) (r : ℕ) → Counted N r → d r ≡ false → waiting d (N.target r) ≡ suc (waiting (write d r) (N.target r))
  unfolding waiting
  waiting-less d r h e = left_less (λ p. N.counts p && eqb (N.target p) (N.target r)) d N.count r h.0 (rw (h.1, eq-eqb (N.target r) (N.target r) refl)) e

  pub waiting-other : (d : Written) (r m : ℕ) → m ≢ N.target r → waiting (write d r) m ≡ waiting d m
  unfolding waiting
  waiting-other d r m n = left-same (λ p. N.counts p && eqb (N.target p) m) d N.count r (rw (ne_eqb (N.target r) m (λ e. n (sym e))) (and-false (N.counts r)))
