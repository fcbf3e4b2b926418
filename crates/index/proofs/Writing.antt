-- What the functions that write the image need: a pair of numbers, the loop over the entries, the loop over the rules of an order. Assumes nothing.
use mathlib.Core.Path.{◌≡◌, refl, sym, ◌∙◌}
use mathlib.Core.List.{List, ◌++◌}
use Prim.Native.Nat.{ℕ, suc, ◌+◌, ◌*◌, ◌^◌, ◌≤◌, ◌<◌}
use native.Mathlib.Omega.{arith}
use lib.ListN.{length, get_or}
use Rattle.paper.specs.Limits.{max_marks, index_header, index_stage, index_rule}
use Rattle.general.specs.Lists.{flat}
use Rattle.general.specs.Writing.{Fits, Wrote, then, fits-first, fits-then, Runs, runs-start, runs-length, runs-fits, runs-more, runs_done}
use Rattle.wire.specs.Wire.{put16, put32, bytes16, bytes32}
use Rattle.wire.specs.Laws.{length-bytes32}
use Rattle.order_theory.specs.Order.{counted_rules, NoLoop}
use Rattle.order_theory.specs.Running.{running_order}
use Rattle.book.specs.Image.{rules_in, book_of}
use Rattle.book.specs.WellFormed.{WellFormed}
use Rattle.book.specs.declared.Counts.{Counts}
use Rattle.rule_order.specs.Nets.{rules_of, rules-few}
use Rattle.unwritten.specs.Counters.{Begun}
use Rattle.ordering.specs.declared.scan.Scan.{Scan}
use Rattle.ordering.specs.Scanning.{Scanned, Turn, scanned-first, order-few}
use Rattle.index.specs.Index.{order_bytes, index_image, order-length}
use Rattle.index.specs.Sizes.{order_size, start_from, entry_from, Sized}
use Rattle.index.specs.Runs.{pair-length, start_first, start-more, start_small, rule_at, ordered, order-runs}
use Rattle.index.specs.Ready.{IndexReady, image-runs}

-- ---- a pair of numbers

pub number-wrote : (room : List ℕ) (at n : ℕ) → Wrote room at (bytes32 n) (at + 4) (put32 room at n)
unfolding put32 put16 bytes32 bytes16
number-wrote room at n =
    let a : at + 2 + 1 ≡ suc (suc (suc at)) = omega arith in
    let b : at + 2 ≡ suc (suc at) = omega arith in
    let d : at + 1 ≡ suc at = omega arith in
    record { place = refl; holds = rw (a, b, d) }

pub pair-wrote : (room mid after : List ℕ) (at x y : ℕ) → mid ≡ put32 room at x → after ≡ put32 mid (at + 4) y → Wrote room at (bytes32 x ++ bytes32 y) (at + 8) after
pair-wrote room mid after at x y p q =
    rw (q, p) (let w = then (number-wrote room at x) (number-wrote (put32 room at x) (at + 4) y) in record { place = omega (arith, pair-length x y); holds = w.holds })

-- ---- the entries

module _ (stages : ℕ) (table : List ℕ) (common : ℕ) where
  pub record Entered (room₀ : List ℕ) (at k next offset : ℕ) (room : List ℕ) : Type 0 where
    pub runs : Runs (entry_from stages table common) stages room₀ at k next room
    pub start : offset ≡ start_from stages table common k

  pub entered-first : (room₀ : List ℕ) (at : ℕ) → Entered room₀ at 0 at (index_header + index_stage * stages) room₀
  entered-first room₀ at = record { runs = runs-start (entry_from stages table common) stages room₀ at; start = sym (start_first stages table common) }

  module _ (room₀ : List ℕ) (at k next offset : ℕ) (room : List ℕ) (i : Entered room₀ at k next offset room) where
    pub entered-length : length room ≡ length room₀
    entered-length = runs-length _ _ _ _ _ _ _ i.runs

    pub entered-small : Sized stages table common → offset < 2 ^ 32
    entered-small z = let s = i.start in omega (arith, start_small stages table common k z i.runs.few)

    pub entered-fits : Fits room₀ at (flat stages (entry_from stages table common)) → k < stages → next + 8 ≤ length room
    unfolding entry_from
    entered-fits f h =
        omega (arith, runs-fits _ _ _ _ _ _ _ i.runs h f, pair-length (start_from stages table common k) (order_size table common k))

    pub entered-more : (n next' : ℕ) (room' : List ℕ) → k < stages → n ≡ order_size table common k → Wrote room next (bytes32 offset ++ bytes32 n) next' room'
        → Entered room₀ at (k + 1) next' (offset + index_rule * n) room'
    unfolding entry_from
    entered-more n next' room' h e w =
        record {
          runs = runs-more _ _ _ _ _ _ _ i.runs next' room' h (rw (i.start, e) at w);
          start = rw (start-more stages table common k, i.start, e);
        }

    pub entered-last : stages ≤ k → Wrote room₀ at (flat stages (entry_from stages table common)) next room
    entered-last h = runs_done _ _ _ _ _ _ _ i.runs h

-- ---- the rules of an order

module _ (s : List ℕ) (stage : ℕ) where
  pub record Putting (room₀ : List ℕ) (from counted : ℕ) (scan : Scan) (counts waits written low high : List ℕ) (j next : ℕ) (room : List ℕ) : Type 0 where
    pub many : counted ≡ ordered s stage
    pub runs : Runs (rule_at s stage) (ordered s stage) room₀ from j next room
    pub scanned : Scanned s stage j scan counts waits written low high

  pub putting-first : (room : List ℕ) (from counted : ℕ) (scan : Scan) (counts waits written low high : List ℕ) → (scan.at ≡ 0) × (scan.front ≡ 0) → length low ≡ max_marks → length high ≡ max_marks
      → WellFormed s → NoLoop (rules_of s stage) → counted ≡ counted_rules (rules_of s stage) → Begun (rules_of s stage) counts waits written
      → Putting room from counted scan counts waits written low high 0 from room
  putting-first room from counted scan counts waits written low high x y z g l e b =
      record { many = e ∙ sym (order-length s stage g l); runs = runs-start (rule_at s stage) (ordered s stage) room from; scanned = scanned-first s stage scan counts waits written low high x y z b }

  module _ (room₀ : List ℕ) (from counted : ℕ) (scan : Scan) (counts waits written low high : List ℕ) (j next : ℕ) (room : List ℕ)
      (i : Putting room₀ from counted scan counts waits written low high j next room) where
    pub putting-length : length room ≡ length room₀
    putting-length = runs-length _ _ _ _ _ _ _ i.runs

    pub putting-fits : Fits room₀ from (order_bytes (book_of s) stage) → j < counted → next + index_rule ≤ length room
    putting-fits f h =
        let e : counted ≡ ordered s stage = i.many in
        omega (arith, runs-fits _ _ _ _ _ _ _ i.runs (omega arith) (rw (order-runs s stage) at f), length-bytes32 (get_or (running_order (rules_of s stage)) j (rules_in s)))

    pub putting-last : counted ≤ j → Wrote room₀ from (order_bytes (book_of s) stage) next room
    putting-last h = let e : counted ≡ ordered s stage = i.many in rw (order-runs s stage) (runs_done _ _ _ _ _ _ _ i.runs (omega arith))

    module _ (scan' : Scan) (counts' waits' written' low' high' : List ℕ) (f : Turn s scan counts waits written low high scan' counts' waits' written' low' high') where
      pub putting-small : WellFormed s → scan'.rule < 2 ^ 32
      putting-small g = let e = (f.finds stage j i.scanned).next in omega (arith, order-few s stage j, rules-few s g)

      pub putting-more : (room' : List ℕ) → j < counted → room' ≡ put32 room next scan'.rule → Putting room₀ from counted scan' counts' waits' written' low' high' (j + 1) (next + index_rule) room'
      putting-more room' h e =
          let m : counted ≡ ordered s stage = i.many in
          let l : j < ordered s stage = omega arith in
          let d = f.finds stage j i.scanned in
          record {
            many = m;
            runs = runs-more _ _ _ _ _ _ _ i.runs (next + index_rule) room' l (rw (e, d.next) (number-wrote room next (get_or (running_order (rules_of s stage)) j (rules_in s))));
            scanned = d.goes l;
          }

-- ---- the whole

module _ (s : List ℕ) (h : Counts) (table : List ℕ) (common : ℕ) (room : List ℕ) (g : IndexReady s h table common) (f : Fits room 0 (index_image (book_of s))) where
  abbrev front : List ℕ
  front = bytes32 h.stages ++ bytes32 h.rules

  abbrev entries : List ℕ
  entries = flat h.stages (entry_from h.stages table common)

  abbrev orders : List ℕ
  orders = flat h.stages (order_bytes (book_of s))

  fits : Fits room 0 ((front ++ entries) ++ orders)
  fits = rw (image-runs s h table common g) at f

  pub index-fits-1 : 0 + 8 ≤ length room
  index-fits-1 = omega (arith, fits-first room 0 front entries (fits-first room 0 (front ++ entries) orders fits), pair-length h.stages h.rules)

  module _ (a : ℕ) (r₁ : List ℕ) (w₁ : Wrote room 0 front a r₁) where
    pub index-fits-2 : Fits r₁ a entries
    index-fits-2 = fits-then w₁ entries (fits-first room 0 (front ++ entries) orders fits)

    module _ (b : ℕ) (r₂ : List ℕ) (w₂ : Wrote r₁ a entries b r₂) where
      pub index-fits-3 : Fits r₂ b orders
      index-fits-3 = fits-then (then w₁ w₂) orders fits

      pub index-wrote : (next : ℕ) (r₃ : List ℕ) → Wrote r₂ b orders next r₃ → Wrote room 0 (index_image (book_of s)) next r₃
      index-wrote next r₃ w₃ = rw (image-runs s h table common g) (then (then w₁ w₂) w₃)
