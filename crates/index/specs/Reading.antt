-- What stands in an index image, read number by number: S and R, each stage's offset and count, and the rules of its order. Assumes nothing.
use Rattle.std.specs.Prelude.{◌≡◌, get_or}
use Rattle.std.proofs.Common.{sym, ◌∙◌, arith}
use Rattle.std.proofs.Math.Path.{ap}
use mathlib.Core.List.{List, ◌++◌, append_assoc}
use Prim.Native.Nat.{ℕ, ◌+◌, ◌*◌, ◌≤◌, ◌<◌, ◌^◌}
use Rattle.std.proofs.Math.ListN.{length, length-append}
use Rattle.paper.specs.Limits.{max_events, max_rules, index_header, index_stage, index_rule}
use Rattle.general.specs.Lists.{total-le, flat, flat-around, length-parts, packed-flat}
use Rattle.wire.specs.Wire.{u32_at, bytes32}
use Rattle.wire.specs.Laws.{u32-first, u32-second, u32-bytes, length-bytes32}
use Rattle.book.specs.Book.{Book}
use Rattle.book.specs.Image.{stages_in, book_of}
use Rattle.book.specs.WellFormed.{WellFormed}
use Rattle.rule_order.specs.Nets.{rules_of, count-is, few-counted, rules-few}
use Rattle.ordering.specs.Scanning.{order-counted}
use Rattle.index.specs.Index.{order_of, order_bytes, offset_of, entry_bytes, index_image, length-order, length-entry, length-entries, length-header, offset-is, NoLoops, order-length}

-- what stands inside, read from its start
module _ (a m z : List ℕ) (at : ℕ) where
  u32-inside : at + 4 ≤ length m → u32_at (a ++ (m ++ z)) (length a + at) ≡ u32_at m at
  u32-inside h = u32-second a (m ++ z) at ∙ u32-first m z at h

-- two numbers of 32 bits
pair-first : (x y : ℕ) → u32_at (bytes32 x ++ bytes32 y) 0 ≡ x
pair-first x y = u32-first (bytes32 x) (bytes32 y) 0 (omega (arith, length-bytes32 x)) ∙ u32-bytes x

pair-second : (x y : ℕ) → u32_at (bytes32 x ++ bytes32 y) 4 ≡ y
pair-second x y = ap (u32_at (bytes32 x ++ bytes32 y)) (omega (arith, length-bytes32 x)) ∙ u32-second (bytes32 x) (bytes32 y) 0 ∙ u32-bytes y

module _ (b : Book) where
  abbrev header : List ℕ
  header = bytes32 b.stages ++ bytes32 (length b.rules)

  abbrev entries : List ℕ
  entries = flat b.stages (entry_bytes b)

  abbrev orders : List ℕ
  orders = flat b.stages (order_bytes b)

  -- ---- S and R

  in-header : (at : ℕ) → at + 4 ≤ index_header → u32_at (index_image b) at ≡ u32_at header at
  unfolding index_image
  in-header at h =
      let l : length (header ++ entries) ≡ length header + length entries = length-append header entries in
      let n : length header ≡ index_header = length-header b in
      u32-first (header ++ entries) orders at (omega arith) ∙ u32-first header entries at (omega arith)

  pub read-stages : u32_at (index_image b) 0 ≡ b.stages
  read-stages = in-header 0 (omega arith) ∙ pair-first b.stages (length b.rules)

  pub read-rules : u32_at (index_image b) 4 ≡ length b.rules
  read-rules = in-header 4 (omega arith) ∙ pair-second b.stages (length b.rules)

  -- ---- a stage's entry

  module _ (stage : ℕ) (known : stage < b.stages) where
    in_entry : (at : ℕ) → at + 4 ≤ index_stage → u32_at (index_image b) (index_header + index_stage * stage + at) ≡ u32_at (entry_bytes b stage) at
    unfolding index_image
    in_entry at h =
        let (r, p) = flat-around b.stages stage (entry_bytes b) known in
        let a : List ℕ = header ++ flat stage (entry_bytes b) in
        let n : length a ≡ index_header + index_stage * stage = length-append header (flat stage (entry_bytes b)) ∙ rw (length-header b, length-entries b stage) in
        let q : (header ++ entries) ++ orders ≡ a ++ (entry_bytes b stage ++ (r ++ orders)) = rw p (simp append_assoc) in
        ap (λ (l : List ℕ). u32_at l (index_header + index_stage * stage + at)) q
        ∙ ap (λ (k : ℕ). u32_at (a ++ (entry_bytes b stage ++ (r ++ orders))) (k + at)) (sym n)
        ∙ u32-inside a (entry_bytes b stage) (r ++ orders) at (omega (arith, length-entry b stage))

    pub read-offset : u32_at (index_image b) (index_header + index_stage * stage) ≡ offset_of b stage
    unfolding entry_bytes
    read-offset = ap (u32_at (index_image b)) (omega arith) ∙ in_entry 0 (omega arith) ∙ pair-first (offset_of b stage) (length (order_of b stage))

    pub read_count : u32_at (index_image b) (index_header + index_stage * stage + 4) ≡ length (order_of b stage)
    unfolding entry_bytes
    read_count = in_entry 4 (omega arith) ∙ pair-second (offset_of b stage) (length (order_of b stage))

    -- ---- its order

    in_order : (at : ℕ) → at + 4 ≤ length (order_bytes b stage) → u32_at (index_image b) (offset_of b stage + at) ≡ u32_at (order_bytes b stage) at
    unfolding index_image offset_of
    in_order at h =
        let (r, p) = flat-around b.stages stage (order_bytes b) known in
        let f : List ℕ = flat stage (order_bytes b) in
        let a : List ℕ = (header ++ entries) ++ f in
        let n : length a ≡ offset_of b stage = length-append (header ++ entries) f ∙ rw (length-append header entries, length-header b, length-entries b b.stages) in
        let q : (header ++ entries) ++ orders ≡ a ++ (order_bytes b stage ++ r) = rw p (simp append_assoc) in
        ap (λ (l : List ℕ). u32_at l (offset_of b stage + at)) q
        ∙ ap (λ (k : ℕ). u32_at (a ++ (order_bytes b stage ++ r)) (k + at)) (sym n)
        ∙ u32-inside a (order_bytes b stage) r at h

    pub read-rule : (j : ℕ) → j < length (order_of b stage) → u32_at (index_image b) (offset_of b stage + index_rule * j) ≡ get_or (order_of b stage) j 0
    unfolding order_bytes
    read-rule j h =
        let o : List ℕ = order_of b stage in
        let g : ℕ → List ℕ = λ i. bytes32 (get_or o i 0) in
        let (r, p) = flat-around (length o) j g h in
        let n : length (flat j g) ≡ index_rule * j = length-parts j index_rule g (λ e. length-bytes32 (get_or o e 0)) in
        in_order (index_rule * j) (omega (arith, length-order b stage))
        ∙ ap (λ (l : List ℕ). u32_at l (index_rule * j)) (packed-flat bytes32 0 o ∙ p)
        ∙ ap (u32_at (flat j g ++ (g j ++ r))) (omega arith)
        ∙ u32-inside (flat j g) (g j) r 0 (omega (arith, length-bytes32 (get_or o j 0)))
        ∙ u32-bytes (get_or o j 0)

-- ---- every number fits its bits

module _ (s : List ℕ) (g : WellFormed s) (n : NoLoops (book_of s)) where
  pub count_small : (stage : ℕ) → stage < stages_in s → length (order_of (book_of s) stage) ≤ max_rules
  unfolding book_of
  count_small stage h = omega (arith, order-length s stage g (n stage h), few-counted s stage, rules-few s g)

  pub offset-small : (stage : ℕ) → stage ≤ stages_in s → offset_of (book_of s) stage < 2 ^ 32
  unfolding book_of
  offset-small stage h =
      let few : stages_in s ≤ max_events = g.headed.counted.stages in
      omega (arith, offset-is (book_of s) stage, total-le stage max_rules (λ t. length (order_of (book_of s) t)) (λ t l. count_small t (omega arith)))

  pub rule-small : (stage j : ℕ) → j < length (order_of (book_of s) stage) → get_or (order_of (book_of s) stage) j 0 < 2 ^ 32
  rule-small stage j h = omega (arith, (order-counted (rules_of s stage) j 0 h).0, count-is s stage, rules-few s g)
