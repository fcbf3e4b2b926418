-- The turns of a completion through the index, one by one, as the code takes them. Assumes nothing.
use mathlib.Core.Path.{◌≡◌, ap, ◌∙◌}
use mathlib.Core.List.{List}
use Prim.Native.Nat.{ℕ, ◌+◌, ◌*◌, ◌≤◌, ◌<◌, ◌^◌}
use native.Mathlib.Omega.{arith}
use lib.ListN.{length, get_or}
use Rattle.paper.specs.Limits.{index_header, index_stage, index_rule}
use Rattle.general.specs.Lists.{flat-part}
use Rattle.wire.specs.Wire.{u32_at}
use Rattle.book.specs.Image.{stages_in, rules_in, book_of}
use Rattle.book.specs.WellRead.{Opened}
use Rattle.book.specs.declared.Counts.{Counts}
use Rattle.rule_order.specs.Nets.{rules_of, count-is}
use Rattle.ordering.specs.Scanning.{order-counted}
use Rattle.judge.specs.Checking.{stages-many}
use Rattle.index.specs.Index.{order_of, order_bytes, offset_of, index_image, length-order, index-ends, NoLoops}
use Rattle.index.specs.Reading.{read-offset, read_count, read-rule, count_small}

-- ---- what the index says of a stage

-- r is the rule at j of the stage's order, which has so many
pub record Entry (s : List ℕ) (stage many j r : ℕ) : Type 0 where
  pub all : many ≡ length (order_of (book_of s) stage)
  pub inside : j < many
  pub is : r ≡ get_or (order_of (book_of s) stage) j 0
  pub below : r < rules_in s

module _ (s index : List ℕ) (h : Counts) (stage : ℕ) (o : Opened s h) (n : NoLoops (book_of s)) (fit : index ≡ index_image (book_of s)) (known : stage < h.stages) where
  its : stage < (book_of s).stages
  its = rw (stages-many s) (let e : h.stages ≡ stages_in s = ap (λ (x : Counts). x.stages) o.counts in omega arith)

  order-ends : offset_of (book_of s) stage + index_rule * length (order_of (book_of s) stage) ≤ length index
  unfolding offset_of
  order-ends = rw fit (omega (arith, index-ends (book_of s), flat-part (book_of s).stages stage (order_bytes (book_of s)) its, length-order (book_of s) stage))

  -- the stage's entry lies before its order
  pub entry_first : index_header + index_stage * stage + 4 ≤ length index
  unfolding offset_of
  entry_first = omega (arith, order-ends, its)

  pub entry-second : index_header + index_stage * stage + 4 + 4 ≤ length index
  unfolding offset_of
  entry-second = omega (arith, order-ends, its)

  module _ (at many : ℕ) (a : at ≡ u32_at index (index_header + index_stage * stage)) (m : many ≡ u32_at index (index_header + index_stage * stage + 4)) where
    at-is : at ≡ offset_of (book_of s) stage
    at-is = a ∙ rw fit (read-offset (book_of s) stage its)

    pub many_is : many ≡ length (order_of (book_of s) stage)
    many_is = m ∙ rw fit (read_count (book_of s) stage its)

    many-small : many < 2 ^ 32
    many-small = omega (arith, many_is, count_small s o.formed n stage (rw (stages-many s) at its))

    module _ (j : ℕ) (l : j < many) where
      pub count_fits : (looked : ℕ) → looked ≡ j → looked + 1 < 2 ^ 32
      count_fits looked e = omega (arith, many-small)

      pub rule-inside-index : at + index_rule * j + index_rule ≤ length index
      rule-inside-index = omega (arith, at-is, many_is, order-ends)

      pub entry : (r : ℕ) → r ≡ u32_at index (at + index_rule * j) → Entry s stage many j r
      entry r q =
          let e : many ≡ length (order_of (book_of s) stage) = many_is in
          let x : r ≡ get_or (order_of (book_of s) stage) j 0 = q ∙ rw (fit, at-is) (read-rule (book_of s) stage its j (omega arith)) in
          record { all = e; inside = l; is = x; below = omega (arith, (order-counted (rules_of s stage) j 0 (omega arith)).0, count-is s stage) }
