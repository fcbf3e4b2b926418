-- The loop over the entries of an order that should rise, and that order by them. Assumes nothing.
use mathlib.Core.Path.{◌≡◌, sym, ◌∙◌}
use mathlib.Core.Bool.{Bool, true, false, not, ◌&&◌}
use mathlib.Core.List.{List}
use Prim.Native.Nat.{ℕ, suc, ◌+◌, ◌-◌, ◌*◌, ◌≤◌, ◌<◌}
use native.Mathlib.Numerals.{add-one}
use native.Mathlib.Omega.{arith}
use lib.Dec.{leb, ltb}
use lib.ListN.{length, get_or}
use borrow.Author.Tests.{le-leb, lt-leb, lt-ltb, le-ltb, not-true, not-false}
use Rattle.paper.specs.Limits.{index_rule}
use Rattle.general.specs.Comparing.{stands_at}
use Rattle.general.specs.Writing.{Fits}
use Rattle.wire.specs.Wire.{u32_at}
use Rattle.order_theory.specs.Order.{counted_rules, NoLoop}
use Rattle.order_theory.specs.Rising.{Rising, rises}
use Rattle.book.specs.Image.{rules_in, book_of}
use Rattle.book.specs.WellFormed.{WellFormed}
use Rattle.rule_order.specs.Nets.{rules_of, count-is}
use Rattle.index.specs.Index.{order_bytes, length-order, order-length}
use Rattle.index_fit.specs.Entries.{entries_at, order-stands}
use Rattle.index_fit.proofs.Comparing.{number_same}

-- ---- an entry, and the entries of an order

module _ (s : List ℕ) (stage from r : ℕ) where
  abbrev enters : Bool
  enters = leb from r && (ltb r (rules_of s stage).count && (rules_of s stage).counts r)

  pub entry-low : r < from → false ≡ enters
  entry-low h = rw (lt-leb from r h)

  pub entry_past : (n : ℕ) → n ≡ rules_in s → from ≤ r → n ≤ r → false ≡ enters
  entry_past n e l h = rw (le-leb from r l, le-ltb r (rules_of s stage).count (omega (arith, count-is s stage)))

  pub entry-counts : (n : ℕ) (b : Bool) → n ≡ rules_in s → from ≤ r → r < n → b ≡ (rules_of s stage).counts r → b ≡ enters
  entry-counts n b e l h c = c ∙ rw (le-leb from r l, lt-ltb r (rules_of s stage).count (omega (arith, count-is s stage)))

-- what is left to see is what the whole asks
pub record Climbing (s : List ℕ) (stage : ℕ) (index : List ℕ) (at counted j next from : ℕ) : Type 0 where
  pub few : j ≤ counted
  pub place : next ≡ at + index_rule * j
  pub rest : rises (rules_of s stage) 0 (entries_at index at counted) ≡ rises (rules_of s stage) from (entries_at index next (counted - j))

module _ (s : List ℕ) (stage : ℕ) (index : List ℕ) (at counted : ℕ) where
  pub climbing-first : Climbing s stage index at counted 0 at 0
  climbing-first = let z : counted - 0 ≡ counted = omega arith in record { few = omega arith; place = omega arith; rest = rw z }

  module _ (j next from : ℕ) (i : Climbing s stage index at counted j next from) where
    pub climbing-fits : at + index_rule * counted ≤ length index → j < counted → next + index_rule ≤ length index
    climbing-fits l h = let p = i.place in omega arith

    pub climbing-done : counted ≤ j → true ≡ rises (rules_of s stage) 0 (entries_at index at counted)
    unfolding rises entries_at
    climbing-done h = let z : counted - j ≡ 0 = omega arith in sym (i.rest ∙ rw z)

    module _ (h : j < counted) (r : ℕ) (e : r ≡ u32_at index next) (b : Bool) (t : b ≡ enters s stage from r) where
      -- the next entry, and those behind it
      ahead : rises (rules_of s stage) 0 (entries_at index at counted) ≡ (b && rises (rules_of s stage) (suc r) (entries_at index (next + index_rule) (counted - (j + 1))))
      unfolding rises entries_at
      ahead = let z : counted - j ≡ suc (counted - (j + 1)) = omega arith in i.rest ∙ rw (z, ← e, ← t)

      pub climbing-not : not b ≡ true → false ≡ rises (rules_of s stage) 0 (entries_at index at counted)
      climbing-not x = sym (ahead ∙ rw (not-true b x))

      pub climbing-more : not b ≡ false → Climbing s stage index at counted (j + 1) (next + index_rule) (r + 1)
      climbing-more x =
          record {
            few = omega arith;
            place = let p = i.place in omega arith;
            rest = ahead ∙ rw (not-false b x, add-one r);
          }

-- ---- the order of a stage by its entries

module _ (s : List ℕ) (stage : ℕ) (g : WellFormed s) (n : NoLoop (rules_of s stage)) (counted : ℕ) (e : counted ≡ counted_rules (rules_of s stage)) (index : List ℕ) (at : ℕ) where
  pub entries_fit : Fits index at (order_bytes (book_of s) stage) → at + index_rule * counted ≤ length index
  entries_fit f = omega (arith, length-order (book_of s) stage, order-length s stage g n)

  pub entries-same : ((i : ℕ) → get_or index i 0 < 256) → Rising (rules_of s stage) → (b : Bool) → b ≡ rises (rules_of s stage) 0 (entries_at index at counted)
      → b ≡ stands_at index at (order_bytes (book_of s) stage)
  entries-same small r b t = t ∙ rw e (order-stands index (number_same index small) s stage at r (order-length s stage g n))
