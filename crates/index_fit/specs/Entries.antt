-- The rules that stand in an index from a place on, and that they are a stage's order, where orders rise, exactly if they rise and count. Assumes nothing.
use Rattle.std.specs.Prelude.{◌≡◌, true, eqb}
use Rattle.std.proofs.Math.Path.{refl}
use Rattle.std.proofs.Common.{sym, ap, ◌∙◌}
use mathlib.Core.List.{List, [], ◌∷◌}
use Prim.Native.Nat.{ℕ, zero, suc, ◌+◌}
use Rattle.std.proofs.Math.ListN.{length}
use borrow.Author.Tests.{eqb-true, eq-eqb}
use Rattle.paper.specs.Limits.{index_rule}
use Rattle.general.specs.Cases.{both, same_test}
use Rattle.general.specs.Comparing.{stands_at, stands-append}
use Rattle.general.specs.Lists.{packed}
use Rattle.wire.specs.Wire.{u32_at, bytes32}
use Rattle.wire.specs.Laws.{length-bytes32}
use Rattle.order_theory.specs.Order.{counted_rules}
use Rattle.order_theory.specs.Running.{running_order}
use Rattle.order_theory.specs.Rising.{Rising, rises}
use Rattle.order_theory.proofs.Rising.{order-rises}
use Rattle.book.specs.Image.{book_of}
use Rattle.rule_order.specs.Nets.{rules_of}
use Rattle.index.specs.Index.{order_bytes}

-- k rules, 32 bits each
unfoldable pub entries_at : List ℕ → ℕ → ℕ → List ℕ
entries_at index at zero = []
entries_at index at (suc k) = u32_at index at ∷ entries_at index (at + index_rule) k

pub length-entries : (index : List ℕ) (k at : ℕ) → length (entries_at index at k) ≡ k
unfolding entries_at
length-entries index zero at = refl
length-entries index (suc k) at = ap suc (length-entries index k (at + index_rule))

module _ (index : List ℕ) (same : (at n : ℕ) → eqb (u32_at index at) n ≡ stands_at index at (bytes32 n)) where
  -- a list stands there exactly if it is the entries
  stands-entries : (l : List ℕ) (at : ℕ) → (stands_at index at (packed bytes32 l) ≡ true) → entries_at index at (length l) ≡ l
  unfolding packed entries_at
  stands-entries [] at h = refl
  stands-entries (r ∷ l) at h =
      let (a, b) = both (stands_at index at (bytes32 r)) (stands_at index (at + length (bytes32 r)) (packed bytes32 l)) (sym (stands-append index at (bytes32 r) (packed bytes32 l)) ∙ h) in
      rw (eqb-true (u32_at index at) r (same at r ∙ a), stands-entries l (at + index_rule) (rw (length-bytes32 r) at b))

  entries-stand : (k at : ℕ) → stands_at index at (packed bytes32 (entries_at index at k)) ≡ true
  unfolding packed entries_at stands_at
  entries-stand zero at = refl
  entries-stand (suc k) at =
      stands-append index at (bytes32 (u32_at index at)) (packed bytes32 (entries_at index (at + index_rule) k))
      ∙ rw (length-bytes32 (u32_at index at), ← same at (u32_at index at), eq-eqb (u32_at index at) (u32_at index at) refl) (entries-stand k (at + index_rule))

  pub order-stands : (s : List ℕ) (stage at : ℕ) → Rising (rules_of s stage) → length (running_order (rules_of s stage)) ≡ counted_rules (rules_of s stage)
      → rises (rules_of s stage) 0 (entries_at index at (counted_rules (rules_of s stage))) ≡ stands_at index at (order_bytes (book_of s) stage)
  unfolding order_bytes
  order-stands s stage at g n =
      let k : ℕ = counted_rules (rules_of s stage) in
      let t = order-rises (rules_of s stage) g (entries_at index at k) (length-entries index k at) in
      same_test (rises (rules_of s stage) 0 (entries_at index at k)) (stands_at index at (packed bytes32 (running_order (rules_of s stage))))
      (λ h. rw (← t.0 h) (entries-stand k at))
      (λ h. t.1 (rw (← n) (stands-entries (running_order (rules_of s stage)) at h)))
