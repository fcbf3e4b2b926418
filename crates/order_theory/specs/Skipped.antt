-- The rules that do not count may stand as written from the start, as code does that tests once for each rule whether it counts. Assumes nothing.
use Rattle.std.specs.Prelude.{◌≡◌, true, false, ◌&&◌}
use Rattle.std.proofs.Math.Bool.{not}
use Prim.Native.Nat.{ℕ}
use Rattle.std.proofs.Math.Dec.{eqb}
use Rattle.general.specs.Cases.{contra, cases, or_right}
use Rattle.general.specs.Below.{tally-same}
use Rattle.order_theory.specs.Order.{Net}
use Rattle.order_theory.specs.Written.{Written, write}
use Rattle.order_theory.specs.Running.{unwritten}

module _ (N : Net) where
  -- nothing but the rules that do not count
  abbrev pub skipped : Written
  skipped q = not (N.counts q)

  -- d and e say the same of every rule that counts
  abbrev pub Agree : Written → Written → Type 0
  Agree d e = (q : ℕ) → N.counts q ≡ true → d q ≡ e q

  pub unwritten-agree : (d e : Written) → Agree d e → unwritten N d ≡ unwritten N e
  unwritten-agree d e h =
      tally-same N.count (λ q. N.counts q && not (d q)) (λ q. N.counts q && not (e q))
      (λ q i. cases (N.counts q) (λ x. rw (x, h q x)) (λ x. rw x))

  -- ---- on the way

  -- every rule that does not count stands as written
  abbrev pub Skips : Written → Type 0
  Skips d = (q : ℕ) → N.counts q ≡ false → d q ≡ true

  pub skips-first : Skips skipped
  skips-first q c = rw c

  pub skips-write : (d : Written) → Skips d → (r : ℕ) → Skips (write d r)
  skips-write d h r q c = or_right (eqb q r) (d q) (h q c)

  -- a rule that is unwritten counts
  pub skips-counted : (d : Written) → Skips d → (r : ℕ) → d r ≡ false → N.counts r ≡ true
  skips-counted d h r e = cases (N.counts r) (λ c. c) (λ c. contra (h r c) e)
