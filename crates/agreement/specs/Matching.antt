-- The matching snapshot, mark by mark. Assumes nothing.
use Prim.Native.Nat.{ℕ, ◌+◌, ◌-◌, ◌*◌, ◌≤◌, ◌<◌}
use Rattle.std.specs.Prelude.{◌≡◌, false, not}
use native.Mathlib.Omega.{arith}
use borrow.Author.Tests.{lt-ltb, le-ltb}
use Rattle.sets.specs.Set.{has}
use Rattle.graph.specs.Steps.{is_open}
use Rattle.flat_chart.specs.Flat.{FlatChart}
use Rattle.graph.specs.Flat.{Marking}
use Rattle.deriver.specs.Matching.{mark_of}
use Rattle.derived.specs.Derived.{executed_mark, included_mark, answered_mark}

module _ (c : FlatChart) (m : Marking) (f : ℕ) (h : f < c.count) where
  pub match-stage : mark_of c m f ≡ is_open c m f
  unfolding mark_of
  match-stage = rw (lt-ltb f c.count h)

  pub match-executed : mark_of c m (executed_mark c.count f) ≡ has m.executed f
  unfolding mark_of
  match-executed =
      let n : ℕ = c.count in
      let e : n + f - n ≡ f = omega arith in
      rw (le-ltb (n + f) n (omega arith), lt-ltb (n + f) (2 * n) (omega arith), e)

  pub match-included : mark_of c m (included_mark c.count f) ≡ has m.included f
  unfolding mark_of
  match-included =
      let n : ℕ = c.count in
      let e : 2 * n + f - 2 * n ≡ f = omega arith in
      rw (le-ltb (2 * n + f) n (omega arith), le-ltb (2 * n + f) (2 * n) (omega arith), lt-ltb (2 * n + f) (3 * n) (omega arith), e)

  pub match-answered : mark_of c m (answered_mark c.count f) ≡ not (has m.pending f)
  unfolding mark_of
  match-answered =
      let n : ℕ = c.count in
      let e : 3 * n + f - 3 * n ≡ f = omega arith in
      rw (
        le-ltb (3 * n + f) n (omega arith),
        le-ltb (3 * n + f) (2 * n) (omega arith),
        le-ltb (3 * n + f) (3 * n) (omega arith),
        lt-ltb (3 * n + f) (4 * n) (omega arith),
        e,
      )

pub match-past : (c : FlatChart) (m : Marking) (k : ℕ) → 4 * c.count ≤ k → mark_of c m k ≡ false
unfolding mark_of
match-past c m k h =
    let n : ℕ = c.count in
    rw (le-ltb k n (omega arith), le-ltb k (2 * n) (omega arith), le-ltb k (3 * n) (omega arith), le-ltb k (4 * n) h)
