-- What the functions that compare need: a number, a pair of numbers, the loop over the entries, the loops over the rules of an order and over the
-- orders, the whole. Assumes nothing.
use mathlib.Core.Path.{◌≡◌, sym, ap, ◌∙◌}
use mathlib.Core.Bool.{Bool, true, false, not, ◌&&◌}
use mathlib.Core.List.{List, ◌++◌}
use Prim.Native.Nat.{ℕ, suc, ◌+◌, ◌*◌, ◌/◌, ◌%◌, ◌^◌, ◌≤◌, ◌<◌}
use native.Mathlib.Nat.{zero-add}
use native.Mathlib.Numerals.{add-one}
use native.Mathlib.Omega.{arith}
use lib.Dec.{eqb}
use lib.ListN.{length, get_or, length-append}
use borrow.Author.Tests.{eqb-true, eq-eqb, not-true, not-false}
use Rattle.paper.specs.Limits.{max_marks, index_header, index_stage, index_rule}
use Rattle.general.specs.Cases.{contra, both, not_so, same_test}
use Rattle.general.specs.Comparing.{same_bytes, same-so, same-shorter, stands_at, stands-append, stands-whole, Stand, stand-start, stand-fits, stand-more, stand-not, stand-done}
use Rattle.general.specs.Lists.{flat, length-parts}
use Rattle.general.specs.Writing.{Fits}
use Rattle.wire.specs.Wire.{u16_at, u32_at, bytes16, bytes32}
use Rattle.wire.specs.Laws.{length-bytes16, length-bytes32}
use Rattle.order_theory.specs.Order.{counted_rules, NoLoop}
use Rattle.order_theory.specs.Running.{running_order}
use Rattle.book.specs.Image.{rules_in, book_of}
use Rattle.book.specs.WellFormed.{WellFormed}
use Rattle.book.specs.declared.Counts.{Counts}
use Rattle.rule_order.specs.Nets.{rules_of, rules-few}
use Rattle.unwritten.specs.Counters.{Begun}
use Rattle.ordering.specs.declared.scan.Scan.{Scan}
use Rattle.ordering.specs.Scanning.{Scanned, Turn, scanned-first, order-few}
use Rattle.index.specs.Index.{order_bytes, index_image, length-order, order-length}
use Rattle.index.specs.Sizes.{order_size, start_from, entry_from, Sized, size_is}
use Rattle.index.specs.Ready.{IndexReady, image-runs, ready-length, ready-stages}
use Rattle.index.specs.Runs.{pair-length, start_first, start-more, start_small, rule_at, ordered, order-runs}

-- ---- numbers

module _ (s : List ℕ) (small : (i : ℕ) → get_or s i 0 < 256) where
  word_same : (at n : ℕ) → eqb (u16_at s at) n ≡ stands_at s at (bytes16 n)
  unfolding u16_at bytes16 stands_at
  word_same at n =
      same_test (eqb (u16_at s at) n) (eqb (get_or s at 0) (n % 256) && (eqb (get_or s (suc at) 0) (n / 256) && true))
      (λ e. let q : u16_at s at ≡ n = eqb-true (u16_at s at) n e in
      rw (eq-eqb (get_or s at 0) (n % 256) (omega (arith, small at)), eq-eqb (get_or s (suc at) 0) (n / 256) (rw (← add-one at) (omega (arith, small at)))))
      (λ e. let t = both (eqb (get_or s at 0) (n % 256)) (eqb (get_or s (suc at) 0) (n / 256) && true) e in
      let v = both (eqb (get_or s (suc at) 0) (n / 256)) true t.1 in
      let x : get_or s at 0 ≡ n % 256 = eqb-true (get_or s at 0) (n % 256) t.0 in
      let y : get_or s (suc at) 0 ≡ n / 256 = eqb-true (get_or s (suc at) 0) (n / 256) v.0 in
      eq-eqb (u16_at s at) n (rw (add-one at, x, y) (omega arith)))

  u16-small : (at : ℕ) → u16_at s at < 65536
  unfolding u16_at
  u16-small at = omega (arith, small at, small (at + 1))

  pub number_same : (at n : ℕ) → eqb (u32_at s at) n ≡ stands_at s at (bytes32 n)
  unfolding u32_at bytes32
  number_same at n =
      same_test (eqb (u32_at s at) n) (eqb (u16_at s at) (n % 65536) && eqb (u16_at s (at + 2)) (n / 65536))
      (λ e. let q : u32_at s at ≡ n = eqb-true (u32_at s at) n e in
      rw (eq-eqb (u16_at s at) (n % 65536) (omega (arith, u16-small at)), eq-eqb (u16_at s (at + 2)) (n / 65536) (omega (arith, u16-small at))))
      (λ e. let t = both (eqb (u16_at s at) (n % 65536)) (eqb (u16_at s (at + 2)) (n / 65536)) e in
      let x : u16_at s at ≡ n % 65536 = eqb-true (u16_at s at) (n % 65536) t.0 in
      let y : u16_at s (at + 2) ≡ n / 65536 = eqb-true (u16_at s (at + 2)) (n / 65536) t.1 in
      eq-eqb (u32_at s at) n (rw (x, y) (omega arith)))
      ∙ sym (stands-append s at (bytes16 (n % 65536)) (bytes16 (n / 65536))
      ∙ rw (length-bytes16 (n % 65536), ← word_same at (n % 65536), ← word_same (at + 2) (n / 65536)))

  pub pair_same : (at x y a b : ℕ) → a ≡ u32_at s at → b ≡ u32_at s (at + 4) → (eqb a x && eqb b y) ≡ stands_at s at (bytes32 x ++ bytes32 y)
  pair_same at x y a b p q =
      rw (p, q) (sym (stands-append s at (bytes32 x) (bytes32 y) ∙ rw (length-bytes32 x, ← number_same at x, ← number_same (at + 4) y)))

  pub rule-same : (at n a : ℕ) → a ≡ u32_at s at → eqb a n ≡ stands_at s at (bytes32 n)
  rule-same at n a p = rw p (number_same at n)

-- ---- the entries

module _ (stages : ℕ) (table : List ℕ) (common : ℕ) (index : List ℕ) (at : ℕ) where
  pub record Entering (k next offset : ℕ) : Type 0 where
    pub stand : Stand (entry_from stages table common) stages index at k next
    pub start : offset ≡ start_from stages table common k

  pub entering-first : Entering 0 at (index_header + index_stage * stages)
  entering-first = record { stand = stand-start (entry_from stages table common) stages index at; start = sym (start_first stages table common) }

  module _ (k next offset : ℕ) (i : Entering k next offset) where
    pub entering-small : Sized stages table common → offset < 2 ^ 32
    entering-small z = let s = i.start in omega (arith, start_small stages table common k z i.stand.few)

    pub entering-fits : Fits index at (flat stages (entry_from stages table common)) → k < stages → next + 8 ≤ length index
    unfolding entry_from
    entering-fits f h = omega (arith, stand-fits _ _ _ _ _ _ i.stand h f, pair-length (start_from stages table common k) (order_size table common k))

    pub entering-done : stages ≤ k → true ≡ stands_at index at (flat stages (entry_from stages table common))
    entering-done h = stand-done _ _ _ _ _ _ i.stand h

    module _ (n : ℕ) (b : Bool) (h : k < stages) (e : n ≡ order_size table common k) (t : b ≡ stands_at index next (bytes32 offset ++ bytes32 n)) where
      entry-stands : b ≡ stands_at index next (entry_from stages table common k)
      unfolding entry_from
      entry-stands = t ∙ rw (i.start, e)

      pub entering-not : not b ≡ true → false ≡ stands_at index at (flat stages (entry_from stages table common))
      entering-not x = stand-not _ _ _ _ _ _ i.stand b h entry-stands x

      pub entering-more : not b ≡ false → Entering (k + 1) (next + index_stage) (offset + index_rule * n)
      unfolding entry_from
      entering-more x =
          record {
            stand = stand-more _ _ _ _ _ _ i.stand (next + index_stage) b h entry-stands x (omega (arith, pair-length (start_from stages table common k) (order_size table common k)));
            start = rw (start-more stages table common k, i.start, e);
          }

-- ---- the rules of an order

module _ (s : List ℕ) (stage : ℕ) (index : List ℕ) (from : ℕ) where
  pub record Following (counted : ℕ) (scan : Scan) (counts waits written low high : List ℕ) (j next : ℕ) : Type 0 where
    pub many : counted ≡ ordered s stage
    pub stand : Stand (rule_at s stage) (ordered s stage) index from j next
    pub scanned : Scanned s stage j scan counts waits written low high

  pub following-first : (counted : ℕ) (scan : Scan) (counts waits written low high : List ℕ) → (scan.at ≡ 0) × (scan.front ≡ 0) → length low ≡ max_marks → length high ≡ max_marks
      → WellFormed s → NoLoop (rules_of s stage) → counted ≡ counted_rules (rules_of s stage) → Begun (rules_of s stage) counts waits written
      → Following counted scan counts waits written low high 0 from
  following-first counted scan counts waits written low high x y z g l e b =
      record { many = e ∙ sym (order-length s stage g l); stand = stand-start (rule_at s stage) (ordered s stage) index from; scanned = scanned-first s stage scan counts waits written low high x y z b }

  module _ (counted : ℕ) (scan : Scan) (counts waits written low high : List ℕ) (j next : ℕ) (i : Following counted scan counts waits written low high j next) where
    pub following-fits : Fits index from (order_bytes (book_of s) stage) → j < counted → next + index_rule ≤ length index
    following-fits f h =
        let e : counted ≡ ordered s stage = i.many in
        omega (arith, stand-fits _ _ _ _ _ _ i.stand (omega arith) (rw (order-runs s stage) at f), length-bytes32 (get_or (running_order (rules_of s stage)) j (rules_in s)))

    pub following-done : counted ≤ j → true ≡ stands_at index from (order_bytes (book_of s) stage)
    following-done h = let e : counted ≡ ordered s stage = i.many in rw (order-runs s stage) (stand-done _ _ _ _ _ _ i.stand (omega arith))

    module _ (scan' : Scan) (counts' waits' written' low' high' : List ℕ) (f : Turn s scan counts waits written low high scan' counts' waits' written' low' high') where
      pub following-small : WellFormed s → scan'.rule < 2 ^ 32
      following-small g = let e = (f.finds stage j i.scanned).next in omega (arith, order-few s stage j, rules-few s g)

      module _ (b : Bool) (h : j < counted) (t : b ≡ stands_at index next (bytes32 scan'.rule)) where
        inside : j < ordered s stage
        inside = let e : counted ≡ ordered s stage = i.many in omega arith

        rule-stands : b ≡ stands_at index next (rule_at s stage j)
        rule-stands = t ∙ rw (f.finds stage j i.scanned).next

        pub following-not : not b ≡ true → false ≡ stands_at index from (order_bytes (book_of s) stage)
        following-not x = rw (order-runs s stage) (stand-not _ _ _ _ _ _ i.stand b inside rule-stands x)

        pub following-more : not b ≡ false → Following counted scan' counts' waits' written' low' high' (j + 1) (next + index_rule)
        following-more x =
            record {
              many = i.many;
              stand = stand-more _ _ _ _ _ _ i.stand (next + index_rule) b inside rule-stands x (omega (arith, length-bytes32 (get_or (running_order (rules_of s stage)) j (rules_in s))));
              scanned = (f.finds stage j i.scanned).goes inside;
            }

-- ---- the orders and the whole

module _ (s : List ℕ) (h : Counts) (table : List ℕ) (common : ℕ) (index : List ℕ) (g : IndexReady s h table common) where
  abbrev front : List ℕ
  front = bytes32 h.stages ++ bytes32 h.rules

  abbrev entries : List ℕ
  entries = flat h.stages (entry_from h.stages table common)

  abbrev orders : List ℕ
  orders = flat h.stages (order_bytes (book_of s))

  order-takes : (k n : ℕ) → k < h.stages → n ≡ order_size table common k → length (order_bytes (book_of s) k) ≡ index_rule * n
  order-takes k n l e =
      length-order (book_of s) k ∙ ap
      (λ (m : ℕ). index_rule * m) (sym (e ∙ size_is s table common g.opened.formed g.counted g.acyclic k (rw (ready-stages s h table common g) at l)))

  pub order-counts : (k n : ℕ) → k < h.stages → n ≡ order_size table common k → n ≡ counted_rules (rules_of s k)
  order-counts k n l e = e ∙ g.counted.each k (rw (ready-stages s h table common g) at l)

  module _ (at k next : ℕ) (i : Stand (order_bytes (book_of s)) h.stages index at k next) where
    pub orders-fits : Fits index at orders → k < h.stages → Fits index next (order_bytes (book_of s) k)
    orders-fits f l = stand-fits _ _ _ _ _ _ i l f

    pub orders-more : (n : ℕ) (b : Bool) → k < h.stages → n ≡ order_size table common k → b ≡ stands_at index next (order_bytes (book_of s) k) → not b ≡ false
        → Stand (order_bytes (book_of s)) h.stages index at (k + 1) (next + index_rule * n)
    orders-more n b l e t x = stand-more _ _ _ _ _ _ i (next + index_rule * n) b l t x (omega (arith, order-takes k n l e))

    pub orders-small : (n : ℕ) → Fits index at orders → k < h.stages → n ≡ order_size table common k → next + index_rule * n ≤ length index
    orders-small n f l e = omega (arith, orders-fits f l, order-takes k n l e)

  pub same-long : (n : ℕ) → n ≡ start_from h.stages table common h.stages → (length index ≡ n → ⊥) → false ≡ same_bytes index (index_image (book_of s))
  same-long n e x = sym (same-shorter index (index_image (book_of s)) (λ q. x (q ∙ sym (e ∙ ready-length s h table common g))))

  entries-length : length entries ≡ index_stage * h.stages
  unfolding entry_from
  entries-length = length-parts h.stages index_stage (entry_from h.stages table common) (λ t. pair-length (start_from h.stages table common t) (order_size table common t))

  runs-long : length (index_image (book_of s)) ≡ index_header + index_stage * h.stages + length orders
  runs-long =
      ap length (image-runs s h table common g)
      ∙ length-append (front ++ entries) orders
      ∙ rw (length-append front entries, pair-length h.stages h.rules, entries-length)

  module _ (n : ℕ) (e : n ≡ start_from h.stages table common h.stages) (l : n ≤ length index) where
    reaches : length (index_image (book_of s)) ≤ length index
    reaches = omega (arith, ready-length s h table common g)

    pub same-fits-1 : 8 ≤ length index
    same-fits-1 = omega (arith, reaches, runs-long)

    pub same-fits-2 : Fits index index_header entries
    same-fits-2 = omega (arith, reaches, runs-long, entries-length)

    pub same-fits-3 : Fits index (index_header + index_stage * h.stages) orders
    same-fits-3 = omega (arith, reaches, runs-long)

  by_runs : length index ≡ length (index_image (book_of s))
      → same_bytes index (index_image (book_of s)) ≡ ((stands_at index 0 front && stands_at index index_header entries) && stands_at index (index_header + index_stage * h.stages) orders)
  by_runs long =
      sym (stands-whole index (index_image (book_of s)) long)
      ∙ ap (stands_at index 0) (image-runs s h table common g)
      ∙ stands-append index 0 (front ++ entries) orders
      ∙ rw (stands-append index 0 front entries, length-append front entries, pair-length h.stages h.rules, entries-length, zero-add 8, zero-add (8 + index_stage * h.stages))

  -- a run that does not stand is enough
  differs : (length index ≡ length (index_image (book_of s))
      → ((stands_at index 0 front && stands_at index index_header entries) && stands_at index (index_header + index_stage * h.stages) orders) ≡ false)
      → false ≡ same_bytes index (index_image (book_of s))
  differs f = sym (not_so (λ y. let q = ap length (same-so index (index_image (book_of s)) y) in contra y (by_runs q ∙ f q)))

  module _ (a : Bool) (p : a ≡ stands_at index 0 front) where
    pub same-front : not a ≡ true → false ≡ same_bytes index (index_image (book_of s))
    same-front x = differs (λ q. rw (← p, not-true a x))

    module _ (y : not a ≡ false) (b : Bool) (q : b ≡ stands_at index index_header entries) where
      pub same_entries : not b ≡ true → false ≡ same_bytes index (index_image (book_of s))
      same_entries x = differs (λ k. rw (← p, ← q, not-false a y, not-true b x))

      pub same_whole : not b ≡ false → (n : ℕ) → n ≡ start_from h.stages table common h.stages → length index ≡ n → (c : Bool)
          → c ≡ stands_at index (index_header + index_stage * h.stages) orders → c ≡ same_bytes index (index_image (book_of s))
      same_whole z n e l c r = sym (by_runs (l ∙ e ∙ ready-length s h table common g) ∙ rw (← p, ← q, not-false a y, not-false b z, ← r))
