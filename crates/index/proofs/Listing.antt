-- What the functions that list the counted rules upwards need. Assumes nothing.
use mathlib.Core.Path.{◌≡◌, refl, sym, ◌∙◌}
use mathlib.Core.Bool.{Bool, true, false}
use mathlib.Core.List.{List, ◌++◌}
use Prim.Native.Nat.{ℕ, ◌+◌, ◌≤◌, ◌<◌}
use native.Mathlib.Omega.{arith}
use lib.ListN.{length}
use Rattle.paper.specs.Limits.{index_rule}
use Rattle.general.specs.Writing.{Fits, Wrote, wrote_none, wrote-length, then, fits-first, fits-then}
use Rattle.wire.specs.Wire.{put32, bytes32}
use Rattle.wire.specs.Laws.{length-bytes32}
use Rattle.order_theory.specs.Rising.{Rising}
use Rattle.book.specs.Image.{rules_in, book_of}
use Rattle.rule_order.specs.Nets.{rules_of}
use Rattle.unwritten.specs.Counters.{Span}
use Rattle.index.specs.Index.{order_bytes}
use Rattle.index.specs.Upwards.{span_bytes, span-join, span-silent, span-one, order-two}
use Rattle.index.proofs.Writing.{number-wrote}

-- ---- a rule

module _ (s : List ℕ) (stage r : ℕ) (room : List ℕ) (at : ℕ) (b : Bool) (e : b ≡ (rules_of s stage).counts r) where
  pub counted-not : b ≡ false → Wrote room at (span_bytes s stage r (r + 1)) at room
  counted-not x =
      let n : (rules_of s stage).counts r ≡ false = sym e ∙ x in
      rw (span-silent s stage r (r + 1) (λ q h l. let z : q ≡ r = omega arith in rw z n)) (wrote_none room at)

  module _ (x : b ≡ true) where
    one : span_bytes s stage r (r + 1) ≡ bytes32 r
    one = span-one s stage r (sym e ∙ x)

    pub counted-fits : Fits room at (span_bytes s stage r (r + 1)) → at + index_rule ≤ length room
    counted-fits f = omega (arith, rw one at f, length-bytes32 r)

    pub counted-wrote : (room' : List ℕ) → room' ≡ put32 room at r → Wrote room at (span_bytes s stage r (r + 1)) (at + index_rule) room'
    counted-wrote room' p = rw (one, p) (number-wrote room at r)

-- ---- a span of them

pub record Listing (s : List ℕ) (stage from to : ℕ) (room₀ : List ℕ) (at r next : ℕ) (room : List ℕ) : Type 0 where
  pub low : from ≤ r
  pub high : r ≤ to
  pub wrote : Wrote room₀ at (span_bytes s stage from r) next room

module _ (s : List ℕ) (stage from to : ℕ) (room₀ : List ℕ) (at : ℕ) where
  pub listing-first : from ≤ to → Listing s stage from to room₀ at from at room₀
  listing-first h = record { low = omega arith; high = h; wrote = rw (span-silent s stage from from (λ r a b. absurd (omega arith))) (wrote_none room₀ at) }

  module _ (r next : ℕ) (room : List ℕ) (i : Listing s stage from to room₀ at r next room) where
    pub listing-length : length room ≡ length room₀
    listing-length = wrote-length i.wrote

    pub listing-last : to ≤ r → Wrote room₀ at (span_bytes s stage from to) next room
    listing-last h = let l = i.high in let q : to ≡ r = omega arith in rw q i.wrote

    module _ (h : r < to) where
      pub listing-fits : Fits room₀ at (span_bytes s stage from to) → Fits room next (span_bytes s stage r (r + 1))
      listing-fits f =
          let l = i.low in
          fits-first room next (span_bytes s stage r (r + 1)) (span_bytes s stage (r + 1) to)
          (rw (← span-join s stage r (r + 1) to (omega arith) (omega arith)) (fits-then i.wrote (span_bytes s stage r to) (rw (span-join s stage from r to l (omega arith)) at f)))

      pub listing-more : (next' : ℕ) (room' : List ℕ) → Wrote room next (span_bytes s stage r (r + 1)) next' room' → Listing s stage from to room₀ at (r + 1) next' room'
      listing-more next' room' w =
          let l = i.low in
          record { low = omega arith; high = omega arith; wrote = rw (span-join s stage from r (r + 1) l (omega arith)) (then i.wrote w) }

-- ---- an order by its two spans

module _ (s : List ℕ) (stage from to again end : ℕ) (p : Span (rules_of s stage) (rules_in s) from to again end) (g : Rising (rules_of s stage)) (room : List ℕ) (at : ℕ) where
  both : order_bytes (book_of s) stage ≡ span_bytes s stage from to ++ span_bytes s stage again end
  both = order-two s stage (rules_in s) from to again end refl p g

  pub rising-fits-1 : Fits room at (order_bytes (book_of s) stage) → Fits room at (span_bytes s stage from to)
  rising-fits-1 f = fits-first room at (span_bytes s stage from to) (span_bytes s stage again end) (rw both at f)

  module _ (next : ℕ) (mid : List ℕ) (w : Wrote room at (span_bytes s stage from to) next mid) where
    pub rising-fits-2 : Fits room at (order_bytes (book_of s) stage) → Fits mid next (span_bytes s stage again end)
    rising-fits-2 f = fits-then w (span_bytes s stage again end) (rw both at f)

    pub rising-wrote : (last : ℕ) (after : List ℕ) → Wrote mid next (span_bytes s stage again end) last after → Wrote room at (order_bytes (book_of s) stage) last after
    rising-wrote last after v = rw both (then w v)
