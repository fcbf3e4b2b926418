-- The marks that stay, and their new numbers: the old order closed up, one number for one mark, and back. Assumes nothing.
use Rattle.std.specs.Prelude.{ℕ, zero, suc, ◌+◌, ◌-◌, ◌*◌, ◌≤◌, ◌<◌, ◌≡◌, refl, Bool, true, cond, ◌&&◌, ltb, length, get_or}
use Rattle.std.proofs.Math.Path.{sym, ap}
use Rattle.std.proofs.Common.{◌∙◌}
use native.Mathlib.Omega.{arith}
use Rattle.std.proofs.Math.Decide.{dec_lt}
use Rattle.std.proofs.Math.Dec.{eqb}
use borrow.Author.Tests.{lt-ltb, le-ltb, ltb-true, ltb-false, eq-eqb, eqb-true}
use Rattle.paper.specs.Limits.{max_events, max_marks, no_mark}
use Rattle.general.specs.Cases.{contra, cases, both, not_so, lt-suc}
use Rattle.general.specs.Below.{first, first_found, tally, tally-le, tally-all}
use Rattle.general.specs.Lists.{length-each, get_or-each}
use Rattle.flat_chart.specs.Flat.{FlatChart}
use Rattle.graph.specs.Flat.{Marking}
use Rattle.derived.specs.Derived.{executed_mark, included_mark, answered_mark}
use Rattle.smaller.specs.Staying.{executed_stays, included_stays, answered_stays, stays, new_mark, smaller_marks, mark_table}

-- ---- counting upwards

pub tally-grows : (f : ℕ → Bool) (j d : ℕ) → tally j f ≤ tally (j + d) f
unfolding tally
tally-grows f j zero = let z : j + zero ≡ j = omega arith in rw z (omega arith)
tally-grows f j (suc d) = let z : j + suc d ≡ suc (j + d) = omega arith in rw z (omega (arith, tally-grows f j d))

pub tally-rises : (f : ℕ → Bool) (j k : ℕ) → j < k → f j ≡ true → tally j f < tally k f
unfolding tally
tally-rises f j zero h t = absurd (omega arith)
tally-rises f j (suc k) h t = lt-suc h (λ q. rw (← q, t) (omega arith)) (λ l. omega (arith, tally-rises f j k l t))

-- one number for one
pub tally-one : (f : ℕ → Bool) (j k : ℕ) → f j ≡ true → f k ≡ true → tally j f ≡ tally k f → j ≡ k
tally-one f j k s t q = go (dec_lt j k) (dec_lt k j)
  where
    go : Dec (j < k) → Dec (k < j) → j ≡ k
    go (yes h) d = absurd (omega (arith, tally-rises f j k h s))
    go (no a) (yes h) = absurd (omega (arith, tally-rises f k j h t))
    go (no a) (no b) = omega arith

-- every number below the whole count is given
pub tally-reach : (f : ℕ → Bool) (k j : ℕ) → j < tally k f → (i : ℕ) × (i < k) × (f i ≡ true) × (tally i f ≡ j)
unfolding tally
tally-reach f zero j h = absurd (omega arith)
tally-reach f (suc k) j h =
    cases (f k)
    (λ t. let z : j < 1 + tally k f = rw t at h in lt-suc (let y : j < suc (tally k f) = omega arith in y) (λ q. (k, omega arith, t, sym q)) (λ l. let
    (i, a, b, d) = tally-reach f k j l in (i, omega arith, b, d)))
    (λ t. let z : j < 0 + tally k f = rw t at h in let (i, a, b, d) = tally-reach f k j (omega arith) in (i, omega arith, b, d))

module _ (c : FlatChart) (m : Marking) where
  abbrev n : ℕ
  n = c.count

  -- ---- which marks stay, by what they are

  pub stays-stage : (e : ℕ) → e < n → stays c m e ≡ true
  unfolding stays
  stays-stage e h = rw (lt-ltb e n h)

  module _ (f : ℕ) (h : f < n) where
    pub stays-executed : stays c m (executed_mark n f) ≡ executed_stays c m f
    unfolding stays
    stays-executed = let e : n + f - n ≡ f = omega arith in rw (le-ltb (n + f) n (omega arith), lt-ltb (n + f) (2 * n) (omega arith), e)

    pub stays-included : stays c m (included_mark n f) ≡ included_stays c m f
    unfolding stays
    stays-included =
        let e : 2 * n + f - 2 * n ≡ f = omega arith in
        rw (le-ltb (2 * n + f) n (omega arith), le-ltb (2 * n + f) (2 * n) (omega arith), lt-ltb (2 * n + f) (3 * n) (omega arith), e)

    pub stays-answered : stays c m (answered_mark n f) ≡ answered_stays c m f
    unfolding stays
    stays-answered =
        let e : 3 * n + f - 3 * n ≡ f = omega arith in
        rw (
          le-ltb (3 * n + f) n (omega arith),
          le-ltb (3 * n + f) (2 * n) (omega arith),
          le-ltb (3 * n + f) (3 * n) (omega arith),
          lt-ltb (3 * n + f) (4 * n) (omega arith),
          e,
        )

  pub stays-below : (k : ℕ) → stays c m k ≡ true → k < 4 * n
  unfolding stays
  stays-below k t =
      cases (ltb k (4 * n)) (ltb-true k (4 * n))
      (λ z. let h : 4 * n ≤ k = ltb-false k (4 * n) z in
      contra t (rw (le-ltb k n (omega arith), le-ltb k (2 * n) (omega arith), le-ltb k (3 * n) (omega arith), z)))

  -- ---- new numbers

  pub new-stage : (e : ℕ) → e < n → new_mark c m e ≡ e
  unfolding new_mark
  new-stage e h = tally-all e (stays c m) (λ p l. stays-stage p (omega arith))

  pub new-high : (k : ℕ) → n ≤ k → n ≤ new_mark c m k
  unfolding new_mark
  new-high k h =
      let a : tally n (stays c m) ≡ n = tally-all n (stays c m) stays-stage in
      let z : n + (k - n) ≡ k = omega arith in
      let b : tally n (stays c m) ≤ tally k (stays c m) = rw z at (tally-grows (stays c m) n (k - n)) in
      omega arith

  pub new-below : (k : ℕ) → stays c m k ≡ true → new_mark c m k < smaller_marks c m
  unfolding new_mark smaller_marks
  new-below k t = tally-rises (stays c m) k (4 * n) (stays-below k t) t

  pub new-one : (j k : ℕ) → stays c m j ≡ true → stays c m k ≡ true → new_mark c m j ≡ new_mark c m k → j ≡ k
  unfolding new_mark
  new-one = tally-one (stays c m)

  pub new-low : (k : ℕ) → new_mark c m k ≤ k
  unfolding new_mark
  new-low k = tally-le k (stays c m)

  -- never more marks than the full book
  pub marks-fewer : smaller_marks c m ≤ 4 * n
  unfolding smaller_marks
  marks-fewer = tally-le (4 * n) (stays c m)

  pub marks-least : n ≤ smaller_marks c m
  unfolding smaller_marks new_mark
  marks-least = new-high (4 * n) (omega arith)

  -- ---- and back: the old number of the mark with the new number j

  unfoldable pub old_mark : ℕ → ℕ
  old_mark j = first (4 * n) (λ k. stays c m k && eqb (new_mark c m k) j)

  pub old-new : (k : ℕ) → stays c m k ≡ true → old_mark (new_mark c m k) ≡ k
  unfolding old_mark
  old-new k t =
      sym (first_found (4 * n) (λ i. stays c m i && eqb (new_mark c m i) (new_mark c m k)) k (stays-below k t)
      (λ p h. not_so (λ b. let (x, y) = both (stays c m p) (eqb (new_mark c m p) (new_mark c m k)) b in
      let z : p ≡ k = new-one p k x t (eqb-true (new_mark c m p) (new_mark c m k) y) in absurd (omega arith)))
      (rw (t, eq-eqb (new_mark c m k) (new_mark c m k) refl)))

  pub new-old : (j : ℕ) → j < smaller_marks c m → (stays c m (old_mark j) ≡ true) × (new_mark c m (old_mark j) ≡ j)
  unfolding smaller_marks new_mark
  new-old j h =
      let (i, a, b, d) = tally-reach (stays c m) (4 * n) j h in
      let z : old_mark j ≡ i = ap old_mark (sym d) ∙ old-new i b in
      rw z (b, d)

  -- ---- the table

  pub table-length : length (mark_table c m) ≡ max_marks
  unfolding mark_table
  table-length = length-each max_marks _

  pub table_at : (k d : ℕ) → k < max_marks → get_or (mark_table c m) k d ≡ cond (stays c m k) (new_mark c m k) no_mark
  unfolding mark_table
  table_at k d h = get_or-each max_marks _ k d h

  pub table_stays : n ≤ max_events → (k d : ℕ) → stays c m k ≡ true → get_or (mark_table c m) k d ≡ new_mark c m k
  table_stays few k d t = let h : k < 4 * n = stays-below k t in table_at k d (omega arith) ∙ rw t
