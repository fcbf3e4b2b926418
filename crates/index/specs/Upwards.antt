-- The rules that count for a stage among a span of rules, upwards, as bytes: where orders rise, two spans with all of them are its order. Assumes nothing.
use Rattle.std.specs.Prelude.{◌≡◌, true, false, List, [], ◌∷◌, ◌++◌}
use Rattle.std.proofs.Math.Path.{refl}
use Rattle.std.proofs.Common.{ap, ◌∙◌, append-nil, zero-add, suc-add}
use Prim.Native.Nat.{ℕ, zero, suc, ◌+◌, ◌-◌, ◌≤◌, ◌<◌}
use Rattle.std.proofs.Math.Nat.{add-zero, add-suc}
use native.Mathlib.Omega.{arith}
use Rattle.general.specs.Cases.{cases}
use Rattle.general.specs.Lists.{packed, packed-append, packed-one}
use Rattle.wire.specs.Wire.{bytes32}
use Rattle.order_theory.specs.Order.{Net}
use Rattle.order_theory.specs.Rising.{Rising, upwards}
use Rattle.order_theory.proofs.Rising.{running-rising}
use Rattle.book.specs.Image.{rules_in, book_of}
use Rattle.rule_order.specs.Nets.{rules_of, count-is}
use Rattle.unwritten.specs.Counters.{Span}
use Rattle.index.specs.Index.{order_bytes}

-- ---- of some rules and those behind them

module _ (N : Net) where
  upwards-then : (j k i : ℕ) → upwards N k (j + i) ≡ upwards N k j ++ upwards N (k + j) i
  unfolding upwards
  upwards-then zero k i = rw (zero-add i, add-zero k)
  upwards-then (suc j) k i =
      let e : upwards N (suc k) (j + i) ≡ upwards N (suc k) j ++ upwards N (k + suc j) i = upwards-then j (suc k) i ∙ rw (suc-add k j, add-suc k j) in
      rw (suc-add j i) (cases (N.counts k) (λ c. rw (c, e)) (λ c. rw (c, e)))

  upwards-none : (j k : ℕ) → ((r : ℕ) → k ≤ r → r < k + j → N.counts r ≡ false) → upwards N k j ≡ []
  unfolding upwards
  upwards-none zero k h = refl
  upwards-none (suc j) k h = rw (h k (omega arith) (omega arith)) (upwards-none j (suc k) (λ r a b. h r (omega arith) (omega arith)))

  upwards-one : (k : ℕ) → N.counts k ≡ true → upwards N k 1 ≡ k ∷ []
  unfolding upwards
  upwards-one k c = rw c

-- ---- their bytes

module _ (s : List ℕ) (stage : ℕ) where
  -- those that count from `from` to below `to`
  unfoldable pub span_bytes : ℕ → ℕ → List ℕ
  span_bytes from to = packed bytes32 (upwards (rules_of s stage) from (to - from))

  pub span-join : (from mid to : ℕ) → from ≤ mid → mid ≤ to → span_bytes from to ≡ span_bytes from mid ++ span_bytes mid to
  unfolding span_bytes
  span-join from mid to a b =
      let e : to - from ≡ (mid - from) + (to - mid) = omega arith in
      let d : from + (mid - from) ≡ mid = omega arith in
      rw (e, upwards-then (rules_of s stage) (mid - from) from (to - mid), d) (packed-append bytes32 (upwards (rules_of s stage) from (mid - from)) (upwards (rules_of s stage) mid (to - mid)))

  pub span-silent : (from to : ℕ) → ((r : ℕ) → from ≤ r → r < to → (rules_of s stage).counts r ≡ false) → span_bytes from to ≡ []
  unfolding span_bytes packed
  span-silent from to h = rw (upwards-none (rules_of s stage) (to - from) from (λ r a b. h r a (omega arith)))

  pub span-one : (r : ℕ) → (rules_of s stage).counts r ≡ true → span_bytes r (r + 1) ≡ bytes32 r
  unfolding span_bytes
  span-one r c = let e : r + 1 - r ≡ 1 = omega arith in rw (e, upwards-one (rules_of s stage) r c) (packed-one bytes32 r)

  -- where orders rise, all rules are one such span
  order-spans : Rising (rules_of s stage) → order_bytes (book_of s) stage ≡ span_bytes 0 (rules_in s)
  unfolding order_bytes span_bytes
  order-spans g = let e : rules_in s - 0 ≡ rules_in s = omega arith in rw (e, ← count-is s stage) (ap (packed bytes32) (running-rising (rules_of s stage) g))

  -- and two with all that count are enough
  pub order-two : (rules from to again end : ℕ) → rules ≡ rules_in s → Span (rules_of s stage) rules from to again end → Rising (rules_of s stage)
      → order_bytes (book_of s) stage ≡ span_bytes from to ++ span_bytes again end
  order-two rules from to again end e p g =
      let a = p.first in
      let b = p.gap in
      let c = p.then in
      let d = p.within in
      order-spans g
      ∙ rw (
        ← e,
        span-join 0 from rules (omega arith) (omega arith),
        span-silent 0 from (λ r x y. p.below r y),
        span-join from to rules (omega arith) (omega arith),
        span-join to again rules (omega arith) (omega arith),
        span-silent to again (λ r x y. p.between r x y),
        span-join again end rules (omega arith) (omega arith),
        span-silent end rules (λ r x y. p.above r x y),
        append-nil (span_bytes again end),
      )
