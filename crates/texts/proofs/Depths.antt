-- What the loop that judges a text keeps: the rest of the text is good from here exactly if the whole is good from 0. Assumes nothing.
use mathlib.Core.Path.{◌≡◌, sym, ap, ◌∙◌}
use mathlib.Core.Bool.{true, false, ◌&&◌}
use mathlib.Core.List.{List}
use Prim.Native.Nat.{ℕ, ◌+◌, ◌-◌, ◌*◌, ◌≤◌, ◌<◌}
use native.Mathlib.Omega.{arith}
use lib.Dec.{eqb}
use Rattle.paper.specs.Limits.{max_stack, word_size}
use Rattle.general.specs.Cases.{cases}
use Rattle.wire.specs.Wire.{u16_at}
use Rattle.book.specs.GoodTexts.{follows, depth_after, next_depth, good_from, good, follows-after}
use Rattle.book.specs.Read.{words_from, words_more, words-none, words-all}

pub record Deep (M : ℕ) (s : List ℕ) (at n d i : ℕ) : Type 0 where
  pub within : i ≤ n
  pub most : d ≤ max_stack
  pub same : good_from M (words_from s (at + word_size * i) (n - i)) d ≡ good M (words_from s at n)

pub deep-starts : (M : ℕ) (s : List ℕ) (at n : ℕ) → Deep M s at n 0 0
unfolding good
deep-starts M s at n =
    record { within = omega arith; most = omega arith; same = ap (λ (ws : List ℕ). good_from M ws 0) (words-all s at n) }

-- the next depth says whether the word may follow
next-in : (M w d e : ℕ) → e ≡ next_depth M w d → e ≤ max_stack → (follows M w d ≡ true) × (e ≡ depth_after w d)
unfolding next_depth
next-in M w d e p l =
    cases (follows M w d) (λ t. (t, rw t at p)) (λ f. let z : e ≡ max_stack + 1 = rw f at p in absurd (omega arith))

next-out : (M w d e : ℕ) → d ≤ max_stack → e ≡ next_depth M w d → max_stack < e → follows M w d ≡ false
unfolding next_depth
next-out M w d e h p l =
    cases (follows M w d) (λ t. let z : e ≡ depth_after w d = rw t at p in let y : depth_after w d ≤ max_stack = follows-after M w d t h in absurd (omega arith)) (λ f. f)

module _ (M : ℕ) (s : List ℕ) (at n d i w e : ℕ) (g : Deep M s at n d i) (h : i < n) (p : w ≡ u16_at s (at + word_size * i)) (q : e ≡ next_depth M w d) where
  rest : List ℕ
  rest = words_from s (at + word_size * (i + 1)) (n - (i + 1))

  turn : (follows M w d && good_from M rest (depth_after w d)) ≡ good M (words_from s at n)
  unfolding good_from rest
  turn = ap (λ (x : ℕ). follows M x d && good_from M rest (depth_after x d)) p ∙ sym (ap (λ (ws : List ℕ). good_from M ws d) (words_more s at n i h)) ∙ g.same

  pub deep_more : e ≤ max_stack → Deep M s at n e (i + 1)
  unfolding rest
  deep_more l =
      let t = next-in M w d e q l in
      record { within = omega arith; most = l; same = ap (good_from M rest) t.1 ∙ sym (rw t.0 at (sym turn)) }

  pub deep-refused : max_stack < e → false ≡ good M (words_from s at n)
  deep-refused l = rw (next-out M w d e g.most q l) at turn

pub deep-ends : (M : ℕ) (s : List ℕ) (at n d i : ℕ) → Deep M s at n d i → n ≤ i → eqb d 1 ≡ good M (words_from s at n)
unfolding good_from
deep-ends M s at n d i g h = sym (ap (λ (ws : List ℕ). good_from M ws d) (words-none s at n i h)) ∙ g.same
