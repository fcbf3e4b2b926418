-- A stack of values as the digits of one number, what a word makes of the number, and what the evaluator's loop keeps. Assumes nothing.
use Prim.Native.Nat.{ℕ, suc, ◌+◌, ◌-◌, ◌*◌, ◌/◌, ◌%◌, ◌^◌, ◌<◌, ◌≤◌}
use native.Mathlib.Nat.{pow-suc, mod-eq_of_lt}
use native.Mathlib.Omega.{arith}
use mathlib.Core.Path.{◌≡◌, refl, ap, ap₂, ◌∙◌}
use mathlib.Core.Bool.{Bool, true, false, not, cond, ◌&&◌, ◌||◌}
use mathlib.Core.List.{List, [], ◌∷◌}
use lib.Bits.{bit_and, bit_or, bit_xor, and_block, or_block, xor_block, or_zero_r, xor_zero_r, and_mask, or_add_and, or_shifted}
use lib.Pow.{pow_mono}
use lib.ListN.{length}
use mir.Val.{bool_byte}
use lib.Dec.{eqb}
use borrow.Author.Tests.{eqb-true, ne_eqb}
use Rattle.paper.specs.Limits.{max_marks, max_stack, word_size, and_word, or_word, not_word}
use Rattle.general.specs.Cases.{cases, both}
use Rattle.general.specs.Numbering.{byte_le}
use Rattle.wire.specs.Wire.{u16_at}
use Rattle.book.specs.Text.{Snap, top1, top2, push, eval, top, holds}
use Rattle.book.specs.GoodTexts.{follows, depth_after, good_from, good, Legal, legal, follows-after, length_push, on_word}
use Rattle.book.specs.Read.{words_from, words_more, words-none, words-all}

-- the values of a stack as the binary digits of a number, the top one lowest
unfoldable pub bits_of : List Bool → ℕ
bits_of [] = 0
bits_of (v ∷ st) = bits_of st * 2 + bool_byte v

-- what the evaluator makes of its number n at the word w, where mark w has the value v
unfoldable pub push_bits : Bool → ℕ → ℕ → ℕ
push_bits v w n =
    cond (eqb w and_word) (bit_and (n / 2 ^ 1) (bit_or n (2 ^ 32 - 1 - 1)))
    (cond (eqb w or_word) (bit_or (n / 2 ^ 1) (bit_and n 1)) (cond (eqb w not_word) (bit_xor n 1) (bit_or (n * 2 ^ 1 % 2 ^ 32) (bool_byte v))))

bit-small : (v : Bool) → bool_byte v < 2
bit-small v = omega (arith, byte_le v)

bits_below : (st : List Bool) → bits_of st < 2 ^ length st
unfolding bits_of
bits_below [] = omega arith
bits_below (v ∷ st) = let p : 2 ^ suc (length st) ≡ 2 ^ length st * 2 = pow-suc 2 (length st) in omega (arith, bits_below st, bit-small v, p)

bits_fit : (st : List Bool) → length st ≤ max_stack → bits_of st < 2 ^ 16
bits_fit st h = omega (arith, bits_below st, pow_mono h)

-- ---- each operator on the lowest digits of a number

bit-and : (a b : Bool) → bit_and (bool_byte a) (bool_byte b) ≡ bool_byte (a && b)
bit-and true true = refl
bit-and true false = refl
bit-and false true = refl
bit-and false false = refl

bit-or : (a b : Bool) → bit_or (bool_byte a) (bool_byte b) ≡ bool_byte (a || b)
bit-or true true = refl
bit-or true false = refl
bit-or false true = refl
bit-or false false = refl

bit_not : (a : Bool) → bit_xor (bool_byte a) 1 ≡ bool_byte (not a)
bit_not true = refl
bit_not false = refl

module _ (r : ℕ) (a : Bool) where
  put_lowest : r < 2 ^ 31 → bit_or (r * 2 % 2 ^ 32) (bool_byte a) ≡ r * 2 + bool_byte a
  put_lowest h =
      let fit : r * 2 < 2 ^ 32 = omega arith in
      ap (λ (x : ℕ). bit_or x (bool_byte a)) (mod-eq_of_lt fit) ∙ or_shifted r 1 (bool_byte a) (bit-small a)

  not-lowest : bit_xor (r * 2 + bool_byte a) 1 ≡ r * 2 + bool_byte (not a)
  not-lowest = xor_block 1 r 0 (bool_byte a) 1 (bit-small a) (omega arith) ∙ ap₂ (λ (x y : ℕ). x * 2 + y) (xor_zero_r r) (bit_not a)

module _ (r : ℕ) (a b : Bool) where
  and-lowest : r < 2 ^ 30 → bit_and (((r * 2 + bool_byte b) * 2 + bool_byte a) / 2) (bit_or ((r * 2 + bool_byte b) * 2 + bool_byte a) (2 ^ 32 - 1 - 1)) ≡ r * 2 + bool_byte (b && a)
  and-lowest h =
      let n : ℕ = r * 2 + bool_byte b in
      let m : ℕ = 2 ^ 31 - 1 in
      let half : (n * 2 + bool_byte a) / 2 ≡ n = omega (arith, bit-small a) in
      let fit : n < 2 ^ 31 = omega (arith, bit-small b) in
      let all : bit_or n m ≡ m = omega (arith, or_add_and n m, and_mask n 31, mod-eq_of_lt fit) in
      let low : bit_or (n * 2 + bool_byte a) (m * 2 + 0) ≡ m * 2 + bool_byte a =
      or_block 1 n m (bool_byte a) 0 (bit-small a) (omega arith) ∙ ap₂ (λ (x y : ℕ). x * 2 + y) all (or_zero_r (bool_byte a)) in
      let up : bit_and r m ≡ r = and_mask r 31 ∙ mod-eq_of_lt (omega arith) in
      ap₂ bit_and half low ∙ and_block 1 r m (bool_byte b) (bool_byte a) (bit-small b) (bit-small a) ∙ ap₂ (λ (x y : ℕ). x * 2 + y) up (bit-and b a)

  or-lowest : bit_or (((r * 2 + bool_byte b) * 2 + bool_byte a) / 2) (bit_and ((r * 2 + bool_byte b) * 2 + bool_byte a) 1) ≡ r * 2 + bool_byte (b || a)
  or-lowest =
      let n : ℕ = r * 2 + bool_byte b in
      let half : (n * 2 + bool_byte a) / 2 ≡ n = omega (arith, bit-small a) in
      let low : bit_and (n * 2 + bool_byte a) 1 ≡ 0 * 2 + bool_byte a = and_mask (n * 2 + bool_byte a) 1 ∙ omega (arith, bit-small a) in
      ap₂ bit_or half low ∙ or_block 1 r 0 (bool_byte b) (bool_byte a) (bit-small b) (bit-small a) ∙ ap₂ (λ (x y : ℕ). x * 2 + y) (or_zero_r r) (bit-or b a)

-- ---- one law ties number and stack, at every depth: what the evaluator makes of the number is the number of the stack after the word

and-bits : (st : List Bool) → 2 ≤ length st → bits_of st < 2 ^ 32 → bit_and (bits_of st / 2) (bit_or (bits_of st) (2 ^ 32 - 1 - 1)) ≡ bits_of (top2 ◌&&◌ st)
unfolding bits_of top2
and-bits [] h l = absurd (omega arith)
and-bits (a ∷ []) h l = absurd (omega arith)
and-bits (a ∷ (b ∷ st)) h l = and-lowest (bits_of st) a b (omega arith)

or-bits : (st : List Bool) → 2 ≤ length st → bit_or (bits_of st / 2) (bit_and (bits_of st) 1) ≡ bits_of (top2 ◌||◌ st)
unfolding bits_of top2
or-bits [] h = absurd (omega arith)
or-bits (a ∷ []) h = absurd (omega arith)
or-bits (a ∷ (b ∷ st)) h = or-lowest (bits_of st) a b

not-bits : (st : List Bool) → 1 ≤ length st → bit_xor (bits_of st) 1 ≡ bits_of (top1 not st)
unfolding bits_of top1
not-bits [] h = absurd (omega arith)
not-bits (a ∷ st) h = not-lowest (bits_of st) a

pub push-bits : (v : Bool) (w : ℕ) (st : List Bool) → Legal max_marks w (length st) → length st ≤ max_stack → push_bits v w (bits_of st) ≡ bits_of (push v w st)
unfolding push_bits push bits_of
push-bits v w st l h =
    let fit : bits_of st < 2 ^ 16 = bits_fit st h in
    on_word w (λ e. rw e (and-bits st (l.ands e) (omega arith))) (λ e. rw e (or-bits st (l.ors e))) (λ e. rw e (not-bits st (l.nots e)))
    (λ a b c. rw (a, b, c) (put_lowest (bits_of st) v (omega arith)))

-- ---- the word of a good text, by the arm that takes it

pub no-operator : (w : ℕ) → w < max_marks → (eqb w and_word ≡ false) × (eqb w or_word ≡ false) × (eqb w not_word ≡ false)
no-operator w h = (ne_eqb w and_word (λ e. omega arith), ne_eqb w or_word (λ e. omega arith), ne_eqb w not_word (λ e. omega arith))

-- a word that is no mark, neither `and` nor `or`, is `not`
pub not-of : {w d : ℕ} → Legal max_marks w d → max_marks ≤ w → (w ≡ and_word → ⊥) → (w ≡ or_word → ⊥) → w ≡ not_word
not-of {w} l h a b =
    cases (eqb w not_word) (eqb-true w not_word) (λ c. absurd (omega (arith, (l.marks (ne_eqb w and_word a) (ne_eqb w or_word b) c).0)))

-- ---- the loop

-- after i words: the number stands for a stack, the rest is good at its depth, and says of it what the whole says of none
pub record Going (s : List ℕ) (at n : ℕ) (snap : Snap) (values i : ℕ) : Type 0 where
  pub stack : List Bool
  pub bits : values ≡ bits_of stack
  pub within : i ≤ n
  pub most : length stack ≤ max_stack
  pub good : good_from max_marks (words_from s (at + word_size * i) (n - i)) (length stack) ≡ true
  pub same : eval snap (words_from s (at + word_size * i) (n - i)) stack ≡ eval snap (words_from s at n) []

pub starts : (s : List ℕ) (at n : ℕ) (snap : Snap) → good max_marks (words_from s at n) ≡ true → Going s at n snap 0 0
unfolding bits_of good
starts s at n snap v =
    record {
      stack = [];
      bits = refl;
      within = omega arith;
      most = omega arith;
      good = rw (words-all s at n) v;
      same = rw (words-all s at n);
    }

module _ (s : List ℕ) (at n : ℕ) (snap : Snap) (values i : ℕ) (g : Going s at n snap values i) where
  goes : i < n → (follows max_marks (u16_at s (at + word_size * i)) (length g.stack) ≡ true)
      × (good_from max_marks (words_from s (at + word_size * (i + 1)) (n - (i + 1))) (depth_after (u16_at s (at + word_size * i)) (length g.stack)) ≡ true)
  unfolding good_from
  goes h = both (follows max_marks (u16_at s (at + word_size * i)) (length g.stack)) _ (rw (words_more s at n i h) at g.good)

  pub legal-of : i < n → (w : ℕ) → w ≡ u16_at s (at + word_size * i) → Legal max_marks w (length g.stack)
  legal-of h w e = rw e (legal max_marks (u16_at s (at + word_size * i)) (length g.stack) (goes h).0)

  pub goes_on : i < n → (w : ℕ) → w ≡ u16_at s (at + word_size * i) → (values' : ℕ) → values' ≡ push_bits (snap w) w values → Going s at n snap values' (i + 1)
  unfolding eval
  goes_on h w e values' b =
      let u : ℕ = u16_at s (at + word_size * i) in
      let st : List Bool = push (snap u) u g.stack in
      let d : length st ≡ depth_after u (length g.stack) = length_push (snap u) u g.stack in
      record {
        stack = st;
        bits = b ∙ ap₂ (λ (x n : ℕ). push_bits (snap x) x n) e g.bits ∙ push-bits (snap u) u g.stack (legal-of h u refl) g.most;
        within = omega arith;
        most = rw d (follows-after max_marks u (length g.stack) (goes h).0 g.most);
        good = rw d (goes h).1;
        same = rw (words_more s at n i h) at g.same;
      }

  pub ends : n ≤ i → eqb values 1 ≡ holds snap (words_from s at n)
  unfolding eval good_from holds top bits_of
  ends h =
      let none : words_from s (at + word_size * i) (n - i) ≡ [] = words-none s at n i h in
      let one : length g.stack ≡ 1 = eqb-true (length g.stack) 1 (rw none at g.good) in
      let last : g.stack ≡ eval snap (words_from s at n) [] = rw none at g.same in
      ap (λ (x : ℕ). eqb x 1) g.bits ∙ alone g.stack one ∙ ap top last
    where
      alone : (st : List Bool) → length st ≡ 1 → eqb (bits_of st) 1 ≡ top st
      alone [] e = absurd (omega arith)
      alone (true ∷ []) e = refl
      alone (false ∷ []) e = refl
      alone (a ∷ (b ∷ st)) e = absurd (omega arith)
