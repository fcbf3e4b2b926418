-- Parts for the members of a set, rising: how long they are together, and the lowest taken from the front. Assumes nothing.
use Prim.Native.Nat.{ℕ, zero, suc, ◌+◌, ◌-◌, ◌*◌, ◌/◌, ◌%◌, ◌^◌, ◌≤◌, ◌<◌}
use Rattle.std.specs.Prelude.{◌≡◌, refl, ◌≢◌, Bool, cond, ltb, get_or}
use Rattle.std.proofs.Common.{sym, ap, ◌∙◌, lt_of_le_of_lt, lt_of_lt_of_le, add-zero, add-suc, suc-mul, pow_mono}
use Rattle.std.proofs.Math.Bool.{true, false, and-true}
use mathlib.Core.List.{List, [], ◌++◌, append_assoc, append-nil}
use Rattle.std.proofs.Math.Nat.{zero-mul}
use native.Mathlib.Omega.{arith}
use Rattle.std.proofs.Math.Arith.{lt_of_le-ne}
use Rattle.std.proofs.Math.ListN.{length, length-append}
use borrow.Author.Tests.{eq-eqb, ne_eqb, lt-ltb, ltb-true}
use Rattle.paper.specs.Limits.{max_events}
use Rattle.general.specs.Cases.{contra, cases, not_so, lt-suc}
use Rattle.general.specs.Below.{tally, tally-same}
use Rattle.sets.specs.Set.{has, minus, only, size, lowest, within, collect}
use Rattle.sets.specs.Laws.{ext, has-minus, has-only, has-empty, has-collect, size-collect, lowest-lt, lowest-has, lowest-least, minus-le, within-lt}
use Rattle.derived.specs.Derived.{listed}
use Rattle.general.specs.Lists.{flat, flat-none, flat-same, packed, packed-append}
use Rattle.wide.specs.Words.{Words}
use Rattle.wide.specs.Number.{words_of, set_words, number, number-has}
use Rattle.wide.specs.declared.Set.{Set}

-- ---- how many

-- a set within n has as many members as pass the test below n
pub size-within : (n s : ℕ) → within n s ≡ true → size s ≡ tally n (has s)
size-within n s h = ap size (sym (ext (collect n (has s)) s same)) ∙ size-collect n (has s)
  where
    same : (e : ℕ) → has (collect n (has s)) e ≡ has s e
    same e =
        has-collect n (has s) e
        ∙ cases (ltb e n) (λ t. rw t)
        (λ t. cases (has s e) (λ m. contra (lt-ltb e n (within-lt n s e h m)) t) (λ m. rw (t, m)))

-- one number more, unless it passes already
pub tally-more : (n e : ℕ) (p q : ℕ → Bool) → e < n → q e ≡ true → ((f : ℕ) → f ≢ e → q f ≡ p f) → tally n q ≡ tally n p + cond (p e) 0 1
unfolding tally
tally-more zero e p q h t s = absurd (omega arith)
tally-more (suc n) e p q h t s =
    lt-suc h
    (λ g. let i : tally n q ≡ tally n p = tally-same n q p (λ f l. s f (λ a. omega arith)) in
    let u : q n ≡ true = rw g at t in
    cases (p n) (λ a. rw (g, a, u, i) (omega arith)) (λ a. rw (g, a, u, i) (omega arith)))
    (λ l. let i : tally n q ≡ tally n p + cond (p e) 0 1 = tally-more n e p q l t s in rw (s n (λ a. omega arith), i) (omega arith))

-- ---- a part for each member

module _ {A : Type 0} (g : ℕ → List A) where
  pub listed-none : (n : ℕ) → flat n (listed g 0) ≡ []
  listed-none n = flat-none n (listed g 0) (λ e h. rw (has-empty e))

  pub length-listed : (w n s : ℕ) → ((f : ℕ) → length (g f) ≡ w) → length (flat n (listed g s)) ≡ w * tally n (has s)
  unfolding flat tally
  length-listed w zero s h = omega arith
  length-listed w (suc n) s h =
      let i : length (flat n (listed g s)) ≡ w * tally n (has s) = length-listed w n s h in
      let j : length (g n) ≡ w = h n in
      length-append (flat n (listed g s)) (listed g s n)
      ∙ cases (has s n) (λ t. rw (t, i, j) (omega arith)) (λ t. rw (t, i) (omega arith))

  -- the lowest member's part comes first
  pub listed-lowest : (n s m : ℕ) → m < n → has s m ≡ true → ((e : ℕ) → e < m → has s e ≡ false)
      → flat n (listed g s) ≡ g m ++ flat n (listed g (minus s (only m)))
  unfolding flat
  listed-lowest zero s m h t l = absurd (omega arith)
  listed-lowest (suc n) s m h t l =
      lt-suc h
      (λ q.
      let a : flat n (listed g s) ≡ [] = flat-none n (listed g s) (λ e i. rw (l e (omega arith))) in
      let b : flat n (listed g (minus s (only m))) ≡ [] = flat-none n (listed g (minus s (only m))) (λ e i. rw (has-minus s (only m) e, l e (omega arith))) in
      let u : has s n ≡ true = rw q at t in
      let v : has (minus s (only m)) n ≡ false = has-minus s (only m) n ∙ rw (u, has-only m n, eq-eqb m n q) in
      rw (a, b, u, v, q) (sym (append-nil (g n))))
      (λ i.
      let v : has (minus s (only m)) n ≡ has s n = has-minus s (only m) n ∙ rw (has-only m n, ne_eqb m n (λ q. omega arith)) (and-true (has s n)) in
      rw (v, listed-lowest n s m i t l) (append_assoc (g m) (flat n (listed g (minus s (only m)))) (listed g s n)))

-- ---- one turn of a loop that takes the lowest member of a set within n out of it

module _ {w : ℕ} (n s m : ℕ) (few : n ≤ w) (in-n : within n s ≡ true) (some : s ≢ 0) (low : m ≡ lowest w s) where
  low-has : has s m ≡ true
  low-has =
      let z : s < 2 ^ w = lt_of_lt_of_le (ltb-true s (2 ^ n) in-n) (pow_mono few) in
      rw low (lowest-has w s (lowest-lt w s (lt_of_le-ne (omega arith) (λ q. some (sym q))) z))

  pub low-lt : m < n
  low-lt = within-lt n s m in-n low-has

  pub low-within : within n (minus s (only m)) ≡ true
  low-within = lt-ltb _ (2 ^ n) (lt_of_le_of_lt (minus-le s (only m)) (ltb-true s (2 ^ n) in-n))

  pub low-falls : minus s (only m) < s
  low-falls =
      lt_of_le-ne (minus-le s (only m))
      (λ q. contra low-has (sym (ap (λ (x : ℕ). has x m) q) ∙ has-minus s (only m) m ∙ rw (low-has, has-only m m, eq-eqb m m refl)))

  pub low_first : {A B : Type 0} (f : A → List B) (g : ℕ → List A) → packed f (flat n (listed g s)) ≡ packed f (g m) ++ packed f (flat n (listed g (minus s (only m))))
  low_first f g =
      rw (listed-lowest g n s m low-lt low-has (λ e h. lowest-least w s e (rw low at h)))
      (packed-append f (g m) (flat n (listed g (minus s (only m)))))

-- ---- a set of several words, listed word by word

-- digit f of word i
pub has_word : (s : Set) → Words (words_of s) → (i f : ℕ) → f < 64 → has (number s) (i * 64 + f) ≡ has (get_or (words_of s) i 0) f
has_word s p i f h =
    let q : (i * 64 + f) / 64 ≡ i = omega arith in
    let m : (i * 64 + f) % 64 ≡ f = omega arith in
    sym (number-has s p (i * 64 + f) (get_or (words_of s) i 0) (has (get_or (words_of s) i 0) f) (rw q) (rw m))

module _ {A : Type 0} where
  flat-split : (k m : ℕ) (g : ℕ → List A) → flat (k + m) g ≡ flat k g ++ flat m (λ f. g (k + f))
  unfolding flat
  flat-split k zero g = rw (add-zero, append-nil)
  flat-split k (suc m) g = rw (add-suc, flat-split k m g) (append_assoc (flat k g) (flat m (λ f. g (k + f))) (g (k + m)))

  flat-blocks : (w k : ℕ) (g : ℕ → List A) → flat (k * w) g ≡ flat k (λ i. flat w (λ f. g (i * w + f)))
  unfolding flat
  flat-blocks w zero g = rw zero-mul
  flat-blocks w (suc k) g = rw (suc-mul, flat-split (k * w) w g, flat-blocks w k g)

  pub listed-words : (g : ℕ → List A) (n : ℕ) (s : Set) → Words (words_of s) → n ≤ max_events → within n (number s) ≡ true
      → flat n (listed g (number s)) ≡ flat set_words (λ i. flat 64 (listed (λ f. g (i * 64 + f)) (get_or (words_of s) i 0)))
  listed-words g n s p few in-n =
      let z : n + (max_events - n) ≡ set_words * 64 = omega arith in
      let past : flat (max_events - n) (λ f. listed g (number s) (n + f)) ≡ [] =
      flat-none (max_events - n) (λ f. listed g (number s) (n + f)) (λ f h. rw (not_so (λ t. let l : n + f < n = within-lt n (number s) (n + f) in-n t in omega arith))) in
      sym (append-nil (flat n (listed g (number s))))
      ∙ rw (← past) (sym (flat-split n (max_events - n) (listed g (number s))))
      ∙ ap (λ (k : ℕ). flat k (listed g (number s))) z
      ∙ flat-blocks 64 set_words (listed g (number s))
      ∙ flat-same set_words (λ i. flat 64 (λ f. listed g (number s) (i * 64 + f))) (λ i. flat 64 (listed (λ f. g (i * 64 + f)) (get_or (words_of s) i 0)))
      (λ i l. flat-same 64 (λ f. listed g (number s) (i * 64 + f)) (listed (λ f. g (i * 64 + f)) (get_or (words_of s) i 0)) (λ f h. rw (has_word s p i f h)))
