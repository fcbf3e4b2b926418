-- The test that a chart is fit, in the form in which the code makes it, and the law for each return. Assumes nothing.
use Prim.Native.Nat.{ℕ, zero, suc, ◌+◌, ◌-◌, ◌≤◌, ◌<◌}
use Rattle.std.specs.Prelude.{◌≡◌, Bool, false, ◌&&◌, cond, List, get_or, eqb, leb, ltb}
use Rattle.std.proofs.Math.Path.{refl}
use Rattle.std.proofs.Common.{ap, ◌∙◌, zero-add, add-suc}
use Rattle.std.proofs.Math.Bool.{and-false}
use native.Mathlib.Omega.{arith}
use Rattle.std.proofs.Math.Nat.{add-zero}
use borrow.Author.Tests.{lt-leb, le-leb, lt-ltb, le-ltb}
use Rattle.paper.specs.Limits.{max_events}
use Rattle.sets.specs.Set.{union, minus, all_below}
use Rattle.flat_chart.specs.Chart.{chart_of}
use Rattle.flat_chart.specs.Flat.{FlatChart}

-- what a set of event e may hold, where all is every event of a chart of n
abbrev pub allowed_at : ℕ → ℕ → ℕ → ℕ
allowed_at all e n = cond (ltb e n) all 0

pub allowed-in : (all e n : ℕ) → e < n → all ≡ allowed_at all e n
allowed-in all e n h = rw (lt-ltb e n h)

pub allowed-past : (all e n : ℕ) → n ≤ e → 0 ≡ allowed_at all e n
allowed-past all e n h = rw (le-ltb e n h)

-- what one event's sets hold
abbrev pub row_held : ℕ → ℕ → ℕ → ℕ → ℕ → ℕ
row_held a b d i x = union (union (union (union a b) d) i) x

-- and that outside what they may
unfoldable pub row_spill : ℕ → ℕ → ℕ → ℕ → ℕ → ℕ → ℕ
row_spill allowed a b d i x = minus (row_held a b d i x) allowed

module _ (n : ℕ) (a b d i x : List ℕ) where
  unfoldable pub spill_at : ℕ → ℕ
  spill_at e = row_spill (allowed_at (all_below n) e n) (get_or a e 0) (get_or b e 0) (get_or d e 0) (get_or i e 0) (get_or x e 0)

  -- over the first k events
  unfoldable pub spill_of : ℕ → ℕ
  spill_of zero = zero
  spill_of (suc k) = union (spill_of k) (spill_at k)

-- what the k rows from one on add to o, where each may hold w
module _ (w o from : ℕ) (a b d i x : List ℕ) where
  unfoldable pub spill_rows : ℕ → ℕ
  spill_rows zero = o
  spill_rows (suc k) = union (spill_rows k) (row_spill w (get_or a (from + k) 0) (get_or b (from + k) 0) (get_or d (from + k) 0) (get_or i (from + k) 0) (get_or x (from + k) 0))

  pub rows_none : (e : ℕ) → e ≡ from → o ≡ spill_rows (e - from)
  unfolding spill_rows
  rows_none e h = let z : e - from ≡ 0 = omega arith in rw z

  pub rows_more : (e : ℕ) {h r s t : ℕ} → from ≤ e → s ≡ spill_rows (e - from) → h ≡ row_held (get_or a e 0) (get_or b e 0) (get_or d e 0) (get_or i e 0) (get_or x e 0)
      → r ≡ minus h w → t ≡ union s r → t ≡ spill_rows (e + 1 - from)
  unfolding spill_rows row_spill
  rows_more e l p k q h =
      let z : e + 1 - from ≡ suc (e - from) = omega arith in
      let y : from + (e - from) ≡ e = omega arith in
      rw (z, y, h, p, q, k)

  pub rows_end : (e end s : ℕ) → e ≤ end → end ≤ e → s ≡ spill_rows (e - from) → s ≡ spill_rows (end - from)
  rows_end e end s h l p = let z : e ≡ end = omega arith in p ∙ ap (λ (m : ℕ). spill_rows (m - from)) z

module _ (n : ℕ) (a b d i x : List ℕ) where
  first_rows : (k : ℕ) → k ≤ n → spill_rows (all_below n) 0 0 a b d i x k ≡ spill_of n a b d i x k
  unfolding spill_rows spill_of spill_at
  first_rows zero h = refl
  first_rows (suc k) h = rw (zero-add, first_rows k (omega arith), ← allowed-in (all_below n) k n (omega arith))

  last-rows : (k : ℕ) → spill_rows 0 (spill_of n a b d i x n) n a b d i x k ≡ spill_of n a b d i x (n + k)
  unfolding spill_rows spill_of spill_at
  last-rows zero = rw add-zero
  last-rows (suc k) = rw (add-suc, last-rows k, ← allowed-past (all_below n) (n + k) n (omega arith))

  -- the rows of the events, which may hold all of them, and the rows past the count, which may hold nothing
  pub spill-whole : (all none s t : ℕ) → n ≤ max_events → all ≡ all_below n → none ≡ 0 → s ≡ spill_rows all none 0 a b d i x (n - 0)
      → t ≡ spill_rows none s n a b d i x (max_events - n) → t ≡ spill_of n a b d i x max_events
  spill-whole all none s t h p o q r =
      let z : n + (max_events - n) ≡ max_events = omega arith in
      let y : n - 0 ≡ n = omega arith in
      r ∙ rw (q, o, y, p, first_rows n (omega arith), last-rows (max_events - n), z)

-- the roles that k events from one on name
module _ (roles : List ℕ) (from : ℕ) where
  unfoldable pub roles_from : ℕ → ℕ
  roles_from zero = zero
  roles_from (suc k) = union (roles_from k) (get_or roles (from + k) 0)

  pub roles-none : (e : ℕ) → e ≡ from → 0 ≡ roles_from (e - from)
  unfolding roles_from
  roles-none e h = let z : e - from ≡ 0 = omega arith in rw z

  pub roles_more : (e s : ℕ) → from ≤ e → s ≡ roles_from (e - from) → union s (get_or roles e 0) ≡ roles_from (e + 1 - from)
  unfolding roles_from
  roles_more e s l p =
      let z : e + 1 - from ≡ suc (e - from) = omega arith in
      let y : from + (e - from) ≡ e = omega arith in
      rw (z, y, p)

  pub roles-end : (e end s : ℕ) → e ≤ end → end ≤ e → s ≡ roles_from (e - from) → s ≡ roles_from (end - from)
  roles-end e end s h l p = let z : e ≡ end = omega arith in p ∙ ap (λ (m : ℕ). roles_from (m - from)) z

-- the same of a chart's five tables: what event e's sets hold, what k rows from one on add, and what the first k rows spill
abbrev pub held_at : FlatChart → ℕ → ℕ
held_at c e = row_held (get_or c.conditions e 0) (get_or c.responses e 0) (get_or c.milestones e 0) (get_or c.includes e 0) (get_or c.excludes e 0)

abbrev pub spilled : FlatChart → ℕ → ℕ → ℕ → ℕ → ℕ
spilled c allowed start from k = spill_rows allowed start from c.conditions c.responses c.milestones c.includes c.excludes k

abbrev pub spill : FlatChart → ℕ → ℕ → ℕ
spill c n k = spill_of n c.conditions c.responses c.milestones c.includes c.excludes k

unfoldable pub fit_tables : ℕ → FlatChart → Bool
fit_tables n c =
    eqb (spill_of n c.conditions c.responses c.milestones c.includes c.excludes max_events) 0 && eqb (roles_from c.roles n (max_events - n)) 0

unfoldable pub fit_chart : FlatChart → Bool
fit_chart c = leb 1 c.count && leb c.count max_events && fit_tables c.count c

module _ (n : ℕ) (a b d i x o : List ℕ) where
  pub chart-few : n < 1 → false ≡ fit_chart (chart_of n a b d i x o)
  unfolding fit_chart
  chart-few h = simp (lt-leb 1 n h)

  pub chart-many : max_events < n → false ≡ fit_chart (chart_of n a b d i x o)
  unfolding fit_chart
  chart-many h = simp (lt-leb n max_events h, and-false)

  pub chart-tested : (s t : ℕ) (z : Bool) → 1 ≤ n → n ≤ max_events → s ≡ spill_of n a b d i x max_events → t ≡ roles_from o n (max_events - n) → z ≡ eqb s 0
      → (z && eqb t 0) ≡ fit_chart (chart_of n a b d i x o)
  unfolding fit_chart fit_tables
  chart-tested s t z h l e f g = simp (le-leb 1 n h, le-leb n max_events l, g, e, f)
