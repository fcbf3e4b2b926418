-- An index stored before request (xiv), with 16 bits a rule: two bytes shorter for each rule that it lists, and so the index of a book, its own or another, only if it lists none. Assumes nothing.
use Rattle.std.specs.Prelude.{◌≡◌, refl, ◌↔◌, drop}
use Rattle.std.proofs.Math.Path.{sym, ap}
use Rattle.std.proofs.Common.{◌∙◌, arith}
use mathlib.Core.List.{List, [], ◌∷◌, ◌++◌, append_assoc}
use Prim.Native.Nat.{ℕ, ◌+◌, ◌*◌, ◌<◌}
use Rattle.std.proofs.Math.ListN.{length, take, length-append}
use Rattle.paper.specs.Limits.{index_header, index_stage}
use Rattle.general.specs.Lists.{total, total-same, total-scaled, flat, flat-same, flat-none, flat-part, length-flat, length-parts, cut-flat, packed, length-packed}
use Rattle.wire.specs.Wire.{u32_at, bytes16, bytes32}
use Rattle.wire.specs.Laws.{u32-first, u32-bytes, length-bytes16, length-bytes32}
use Rattle.book.specs.Book.{Book}
use Rattle.index.specs.Index.{order_of, order_bytes, offset_of, entry_bytes, index_image, length-order, length-entry, length-orders, length-header, length-index}

-- as the index stood in request (iii)
unfoldable pub order_bytes_then : Book → ℕ → List ℕ
order_bytes_then b stage = packed bytes16 (order_of b stage)

unfoldable pub offset_then : Book → ℕ → ℕ
offset_then b stage = index_header + index_stage * b.stages + length (flat stage (order_bytes_then b))

unfoldable pub entry_bytes_then : Book → ℕ → List ℕ
entry_bytes_then b stage = bytes32 (offset_then b stage) ++ bytes32 (length (order_of b stage))

unfoldable pub index_image_then : Book → List ℕ
index_image_then b = bytes32 b.stages ++ bytes32 (length b.rules) ++ flat b.stages (entry_bytes_then b) ++ flat b.stages (order_bytes_then b)

none-listed : (l : List ℕ) → length l ≡ 0 → l ≡ []
none-listed [] e = refl
none-listed (x ∷ l) e = absurd (omega arith)

-- the bytes of a number, and what stands behind them
number-front : (x y : ℕ) (r t : List ℕ) → bytes32 x ++ r ≡ bytes32 y ++ t → (x ≡ y) × (r ≡ t)
unfolding bytes32 bytes16
number-front x y r t e = (
  sym (read x r) ∙ ap (λ (l : List ℕ). u32_at l 0) e ∙ read y t,
  ap (drop 4) e,
)
  where
    read : (n : ℕ) (l : List ℕ) → u32_at (bytes32 n ++ l) 0 ≡ n
    read n l = u32-first (bytes32 n) l 0 (omega (arith, length-bytes32 n)) ∙ u32-bytes n

-- a part of w bytes, by its place
part_at : (k w t : ℕ) (g : ℕ → List ℕ) (rest : List ℕ) → ((e : ℕ) → length (g e) ≡ w) → t < k → take w (drop (w * t) (flat k g ++ rest)) ≡ g t
part_at k w t g rest l h = rw (← length-parts t w g l, ← l t) (cut-flat k t g rest h)

module _ (b : Book) where
  order-then : (stage : ℕ) → length (order_bytes_then b stage) ≡ 2 * length (order_of b stage)
  unfolding order_bytes_then
  order-then stage = length-packed bytes16 2 length-bytes16 (order_of b stage)

  orders-then : length (flat b.stages (order_bytes_then b)) ≡ 2 * total b.stages (λ s. length (order_of b s))
  orders-then =
      length-flat b.stages (order_bytes_then b)
      ∙ total-same b.stages (λ s. length (order_bytes_then b s)) (λ s. 2 * length (order_of b s)) (λ s h. order-then s)
      ∙ total-scaled b.stages 2 (λ s. length (order_of b s))

  length-entry-then : (stage : ℕ) → length (entry_bytes_then b stage) ≡ index_stage
  unfolding entry_bytes_then
  length-entry-then s = length-append (bytes32 (offset_then b s)) (bytes32 (length (order_of b s))) ∙ rw (length-bytes32 (offset_then b s), length-bytes32 (length (order_of b s)))

  entries-then : length (flat b.stages (entry_bytes_then b)) ≡ index_stage * b.stages
  entries-then = length-parts b.stages index_stage (entry_bytes_then b) length-entry-then

  -- two bytes for each rule that an order lists
  pub length-then : length (index_image_then b) + 2 * total b.stages (λ s. length (order_of b s)) ≡ length (index_image b)
  unfolding index_image_then
  length-then =
      let front : List ℕ = bytes32 b.stages ++ bytes32 (length b.rules) in
      let e : List ℕ = flat b.stages (entry_bytes_then b) in
      let o : List ℕ = flat b.stages (order_bytes_then b) in
      let n : length ((front ++ e) ++ o) ≡ length front + length e + length o = length-append (front ++ e) o ∙ rw (length-append front e) in
      omega (arith, n, length-header b, entries-then, orders-then, length-index b)

  module _ (none : (t : ℕ) → t < b.stages → order_of b t ≡ []) where
    no_bytes : (t : ℕ) → t < b.stages → order_bytes b t ≡ []
    unfolding order_bytes packed
    no_bytes t h = rw (none t h)

    no-bytes-then : (t : ℕ) → t < b.stages → order_bytes_then b t ≡ []
    unfolding order_bytes_then packed
    no-bytes-then t h = rw (none t h)

    same-entry : (t : ℕ) → t < b.stages → entry_bytes_then b t ≡ entry_bytes b t
    unfolding entry_bytes_then entry_bytes offset_then offset_of
    same-entry t h = rw (flat-none t (order_bytes_then b) (λ s l. no-bytes-then s (omega arith)), flat-none t (order_bytes b) (λ s l. no_bytes s (omega arith)))

    alike : index_image_then b ≡ index_image b
    unfolding index_image_then index_image
    alike =
        rw (
          flat-same b.stages (entry_bytes_then b) (entry_bytes b) same-entry,
          flat-same b.stages (order_bytes_then b) (order_bytes b) (λ t h. no-bytes-then t h ∙ sym (no_bytes t h)),
        )

-- where an order lists a rule, it is the index of no book
module _ (b c : Book) (e : index_image_then b ≡ index_image c) where
  behind : (b.stages ≡ c.stages) × (flat b.stages (entry_bytes_then b) ++ flat b.stages (order_bytes_then b) ≡ flat c.stages (entry_bytes c) ++ flat c.stages (order_bytes c))
  unfolding index_image_then index_image
  behind =
      let (s, f) = number-front b.stages c.stages _ _ (simp append_assoc at e) in
      let (r, g) = number-front (length b.rules) (length c.rules) _ _ f in
      (s, g)

  entry-same : (t : ℕ) → t < b.stages → length (order_of b t) ≡ length (order_of c t)
  unfolding entry_bytes_then entry_bytes
  entry-same t h =
      let s : b.stages ≡ c.stages = behind.0 in
      let q : entry_bytes_then b t ≡ entry_bytes c t =
      sym (part_at b.stages index_stage t (entry_bytes_then b) (flat b.stages (order_bytes_then b)) (length-entry-then b) h)
      ∙ ap (λ (l : List ℕ). take index_stage (drop (index_stage * t) l)) behind.1
      ∙ part_at c.stages index_stage t (entry_bytes c) (flat c.stages (order_bytes c)) (length-entry c) (omega arith) in
      let (o, z) = number-front (offset_then b t) (offset_of c t) _ _ q in
      sym (u32-bytes (length (order_of b t))) ∙ ap (λ (l : List ℕ). u32_at l 0) z ∙ u32-bytes (length (order_of c t))

  pub stored-lists-none : (t : ℕ) → t < b.stages → order_of b t ≡ []
  stored-lists-none t h =
      let s : b.stages ≡ c.stages = behind.0 in
      let n : total b.stages (λ k. length (order_of b k)) ≡ total c.stages (λ k. length (order_of c k)) =
      total-same b.stages (λ k. length (order_of b k)) (λ k. length (order_of c k)) entry-same ∙ ap (λ (k : ℕ). total k (λ t. length (order_of c t))) s in
      none-listed (order_of b t)
      (omega (arith, ap length e, length-then b, length-index b, length-index c, n, s, flat-part b.stages t (order_bytes b) h, length-order b t, length-orders b b.stages))

-- it is its own book's index exactly if no order lists a rule
pub stored_same : (b : Book) → (index_image_then b ≡ index_image b) ↔ ((t : ℕ) → t < b.stages → order_of b t ≡ [])
stored_same b = (stored-lists-none b b, alike b)
