-- The runs that the image is written and compared by: a pair of numbers, where an order starts, an order rule by rule. Assumes nothing.
use Rattle.std.specs.Prelude.{◌≡◌, List, ◌++◌, ℕ, ◌+◌, ◌*◌, ◌^◌, ◌≤◌, ◌<◌, length, get_or}
use Rattle.std.proofs.Common.{◌∙◌, length-append}
use native.Mathlib.Omega.{arith}
use Rattle.paper.specs.Limits.{max_rules, index_header, index_stage, index_rule}
use Rattle.general.specs.Lists.{total, total-le, total-step, flat, packed-flat}
use Rattle.wire.specs.Wire.{bytes32}
use Rattle.wire.specs.Laws.{length-bytes32}
use Rattle.order_theory.specs.Running.{running_order}
use Rattle.book.specs.Image.{rules_in, book_of}
use Rattle.rule_order.specs.Nets.{rules_of}
use Rattle.index.specs.Index.{order_bytes}
use Rattle.index.specs.Sizes.{order_size, start_from, Sized}

pub pair-length : (x y : ℕ) → length (bytes32 x ++ bytes32 y) ≡ 8
pair-length x y = length-append (bytes32 x) (bytes32 y) ∙ rw (length-bytes32 x, length-bytes32 y)

module _ (stages : ℕ) (table : List ℕ) (common : ℕ) where
  pub start_first : start_from stages table common 0 ≡ index_header + index_stage * stages
  unfolding start_from total
  start_first = omega arith

  pub start-more : (k : ℕ) → start_from stages table common (k + 1) ≡ start_from stages table common k + index_rule * order_size table common k
  unfolding start_from
  start-more k = rw (total-step k (order_size table common)) (omega arith)

  pub start_small : (k : ℕ) → Sized stages table common → k ≤ stages → start_from stages table common k < 2 ^ 32
  unfolding start_from
  start_small k z h = let l = z.few in omega (arith, total-le k max_rules (order_size table common) (λ t i. z.each t (omega arith)))

module _ (s : List ℕ) (stage : ℕ) where
  abbrev pub rule_at : ℕ → List ℕ
  rule_at j = bytes32 (get_or (running_order (rules_of s stage)) j (rules_in s))

  abbrev pub ordered : ℕ
  ordered = length (running_order (rules_of s stage))

  pub order-runs : order_bytes (book_of s) stage ≡ flat ordered rule_at
  unfolding order_bytes
  order-runs = packed-flat bytes32 (rules_in s) (running_order (rules_of s stage))
