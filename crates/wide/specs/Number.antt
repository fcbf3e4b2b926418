-- What a set of four words and a row of a table are as numbers, and the laws in the form in which the code meets them. Assumes nothing.
use Rattle.std.specs.Prelude.{ℕ, zero, suc, ◌+◌, ◌*◌, ◌/◌, ◌%◌, ◌-◌, ◌^◌, ◌≤◌, ◌<◌, min, ◌≡◌, ◌≢◌, Bool, true, List, [], ◌∷◌, eqb, set, length, replicate}
use Rattle.std.proofs.Math.Path.{refl, sym, ap}
use Rattle.std.proofs.Common.{◌∙◌, add-one, arith, zero-add}
use Rattle.std.proofs.Math.Nat.{add-zero, sub-zero}
use borrow.Author.Tests.{eqb-true, eqb-false, eq-eqb, ltb-true, lt-ltb}
use Rattle.paper.specs.Limits.{max_events}
use Rattle.general.specs.Cases.{same_test, cases}
use Rattle.sets.specs.Laws.{has_all, minus-none, none-minus, within-lt, lt-within, within-wide}
use Rattle.general.specs.Tables.{tabulate, get_or-tabulate, length-tabulate}
use Rattle.std.proofs.Math.ListN.{get_or, length-set}
use Rattle.std.proofs.Math.Seq.{ext_get_or, get_or-set_same, get_or-set_other}
use Rattle.sets.specs.Set.{has, union, inter, minus, only, size, lowest, all_below, within}
use Rattle.wide.specs.Words.{joined, Words, none, more, joined-union, joined-inter, joined-minus, joined-has, joined-size, lowest-here, lowest-later, joined-only, joined-all, joined-empty, words_at, joined-lt, joined-injective, words_same, row-injective}
use Rattle.wide.specs.declared.Set.{Set}

abbrev pub words_of : Set → List ℕ
words_of s = s.w0 ∷ s.w1 ∷ s.w2 ∷ s.w3 ∷ []

-- how many they are
abbrev pub set_words : ℕ
set_words = max_events / 64

unfoldable pub number : Set → ℕ
number s = joined (words_of s)

abbrev pub four : ℕ → ℕ → ℕ → ℕ → Set
four a b c d = record { w0 = a; w1 = b; w2 = c; w3 = d }

-- each of a set's words has 64 digits
pub words : (s : Set) → s.w0 < 2 ^ 64 → s.w1 < 2 ^ 64 → s.w2 < 2 ^ 64 → s.w3 < 2 ^ 64 → Words (words_of s)
words s a b c d = more a (more b (more c (more d none)))

-- ---- the operations

module _ (a b : Set) (p : Words (words_of a)) (q : Words (words_of b)) where
  pub number-union : number (four (union a.w0 b.w0) (union a.w1 b.w1) (union a.w2 b.w2) (union a.w3 b.w3)) ≡ union (number a) (number b)
  unfolding number
  number-union = joined-union (words_of a) (words_of b) p q refl

  pub number-inter : number (four (inter a.w0 b.w0) (inter a.w1 b.w1) (inter a.w2 b.w2) (inter a.w3 b.w3)) ≡ inter (number a) (number b)
  unfolding number
  number-inter = joined-inter (words_of a) (words_of b) p q refl

  pub number-minus : {w x y z : ℕ} → w ≡ minus a.w0 b.w0 → x ≡ minus a.w1 b.w1 → y ≡ minus a.w2 b.w2 → z ≡ minus a.w3 b.w3
      → number (four w x y z) ≡ minus (number a) (number b)
  unfolding number
  number-minus hw hx hy hz = rw (hw, hx, hy, hz) (joined-minus (words_of a) (words_of b) p q refl)

-- ---- the tests

module _ (s : Set) (p : Words (words_of s)) where
  pub number-has : (e w : ℕ) (r : Bool) → w ≡ get_or (words_of s) (e / 64) 0 → r ≡ has w (e % 64) → r ≡ has (number s) e
  unfolding number
  number-has e w r h q = q ∙ rw h (sym (joined-has (words_of s) p e))

  pub number_size : {w x y z : ℕ} → w ≡ size s.w0 → x ≡ size s.w1 → y ≡ size s.w2 → z ≡ size s.w3 → z + y + x + w ≡ size (number s)
  unfolding number
  number_size hw hx hy hz = rw (hw, hx, hy, hz) (sym (joined-size (words_of s) p ∙ rw zero-add))

pub number-empty : (s : Set) → eqb (union (union (union s.w3 s.w2) s.w1) s.w0) 0 ≡ eqb (number s) 0
unfolding number
number-empty s = joined-empty (words_of s)

pub word_none : (s : Set) (i : ℕ) → (i ≡ 0 → ⊥) → (i ≡ 1 → ⊥) → (i ≡ 2 → ⊥) → (i ≡ 3 → ⊥) → 0 ≡ get_or (words_of s) i 0
word_none s zero a b c d = absurd (a refl)
word_none s (suc zero) a b c d = absurd (b refl)
word_none s (suc (suc zero)) a b c d = absurd (c refl)
word_none s (suc (suc (suc zero))) a b c d = absurd (d refl)
word_none s (suc (suc (suc (suc i)))) a b c d = refl

-- ---- the lowest member

module _ (s : Set) (l : ℕ) where
  pub least-0 : s.w0 < 2 ^ 64 → (s.w0 ≡ 0 → ⊥) → l ≡ lowest 64 s.w0 → l ≡ lowest 256 (number s)
  unfolding number
  least-0 h n e = e ∙ lowest-here 192 s.w0 (s.w1 ∷ s.w2 ∷ s.w3 ∷ []) h n

  module _ (z0 : s.w0 ≡ 0) where
    later-0 : lowest 192 (joined (s.w1 ∷ s.w2 ∷ s.w3 ∷ [])) + 64 ≡ lowest 256 (number s)
    unfolding number
    later-0 = lowest-later 192 s.w0 (s.w1 ∷ s.w2 ∷ s.w3 ∷ []) z0

    pub least-1 : s.w1 < 2 ^ 64 → (s.w1 ≡ 0 → ⊥) → l ≡ lowest 64 s.w1 → l + 64 ≡ lowest 256 (number s)
    least-1 h n e = ap (λ (x : ℕ). x + 64) (e ∙ lowest-here 128 s.w1 (s.w2 ∷ s.w3 ∷ []) h n) ∙ later-0

    module _ (z1 : s.w1 ≡ 0) where
      later-1 : lowest 128 (joined (s.w2 ∷ s.w3 ∷ [])) + 128 ≡ lowest 256 (number s)
      later-1 = omega (arith, later-0, lowest-later 128 s.w1 (s.w2 ∷ s.w3 ∷ []) z1)

      pub least-2 : s.w2 < 2 ^ 64 → (s.w2 ≡ 0 → ⊥) → l ≡ lowest 64 s.w2 → l + 128 ≡ lowest 256 (number s)
      least-2 h n e = ap (λ (x : ℕ). x + 128) (e ∙ lowest-here 64 s.w2 (s.w3 ∷ []) h n) ∙ later-1

      pub least-3 : s.w2 ≡ 0 → l ≡ lowest 64 s.w3 → l + 192 ≡ lowest 256 (number s)
      least-3 z2 e = omega (arith, later-1, lowest-later 64 s.w2 (s.w3 ∷ []) z2, e, ap (lowest 64) (zero-add s.w3))

-- ---- sets made of a number

module _ (e b : ℕ) (p : b ≡ only (e % 64)) where
  pub one-0 : e / 64 ≡ 0 → number (four b 0 0 0) ≡ only e
  unfolding number
  one-0 q = joined-only 4 0 e b (omega arith) q p

  pub one-1 : e / 64 ≡ 1 → number (four 0 b 0 0) ≡ only e
  unfolding number
  one-1 q = joined-only 4 1 e b (omega arith) q p

  pub one-2 : e / 64 ≡ 2 → number (four 0 0 b 0) ≡ only e
  unfolding number
  one-2 q = joined-only 4 2 e b (omega arith) q p

  pub one-3 : e < 256 → (e / 64 ≡ 0 → ⊥) → (e / 64 ≡ 1 → ⊥) → (e / 64 ≡ 2 → ⊥) → number (four 0 0 0 b) ≡ only e
  unfolding number
  one-3 h x y z = joined-only 4 3 e b (omega arith) (omega arith) p

pub below_none : (n from : ℕ) → n ≤ from → 0 ≡ all_below (min (n - from) 64)
below_none n from h = let z : min (n - from) 64 ≡ 0 = omega arith in rw z

pub below-part : (n from r : ℕ) → n - from < 64 → r ≡ all_below (n - from) → r ≡ all_below (min (n - from) 64)
below-part n from r h e = let z : min (n - from) 64 ≡ n - from = omega arith in rw z e

pub below_all : (n from r : ℕ) → 64 ≤ n - from → r ≡ all_below 64 → r ≡ all_below (min (n - from) 64)
below_all n from r h e = let z : min (n - from) 64 ≡ 64 = omega arith in rw z e

pub number-all : (n : ℕ) {w x y z : ℕ} → n ≤ 256 → w ≡ all_below (min (n - 0) 64) → x ≡ all_below (min (n - 64) 64) → y ≡ all_below (min (n - 128) 64)
    → z ≡ all_below (min (n - 192) 64) → number (four w x y z) ≡ all_below n
unfolding number
number-all n h hw hx hy hz = rw (hw, hx, hy, hz) (joined-all 4 0 n (omega arith) ∙ rw sub-zero)

-- ---- whether every member is below n

pub number_lt : (s : Set) → Words (words_of s) → number s < 2 ^ 256
unfolding number
number_lt s p = joined-lt (words_of s) p

pub within_all : (s : Set) (n : ℕ) → Words (words_of s) → 256 ≤ n → true ≡ within n (number s)
within_all s n p h = within-wide 256 n (number s) (number_lt s p) h

pub within-less : (n s a d : ℕ) (r : Bool) → a ≡ all_below n → d ≡ minus s a → r ≡ eqb d 0 → r ≡ within n s
within-less n s a d r p q h =
    h ∙ rw (q, p)
    (same_test (eqb (minus s (all_below n)) 0) (within n s)
    (λ t. lt-within n s (λ f m. ltb-true f n (sym (has_all n f) ∙ minus-none s (all_below n) (eqb-true _ 0 t) f m)))
    (λ t. eq-eqb (minus s (all_below n)) 0 (none-minus s (all_below n) (λ f m. has_all n f ∙ lt-ltb f n (within-lt n s f t m)))))

-- sets of one number are one
pub number-injective : (s t : Set) → Words (words_of s) → Words (words_of t) → number s ≡ number t → s ≡ t
unfolding number
number-injective s t p q e = let l : words_of s ≡ words_of t = joined-injective (words_of s) (words_of t) p q refl e in
    let f : four s.w0 s.w1 s.w2 s.w3 ≡ four t.w0 t.w1 t.w2 t.w3 = cc in
    f

-- ---- a table of 256 sets

unfoldable pub row_of : List ℕ → ℕ → ℕ
row_of t e = joined (words_at 4 t (e * 4) 0)

-- the numbers of the first n rows
unfoldable pub rows_in : ℕ → List ℕ → List ℕ
rows_in n t = tabulate n (row_of t)

abbrev pub rows_of : List ℕ → List ℕ
rows_of t = rows_in 256 t

pub row_at : (n : ℕ) (t : List ℕ) (e : ℕ) → e < n → get_or (rows_in n t) e 0 ≡ row_of t e
unfolding rows_in
row_at n t e h = get_or-tabulate n (row_of t) e 0 h

pub number-row-in : (t : List ℕ) (e : ℕ) → number (four (get_or t (e * 4) 0) (get_or t (e * 4 + 1) 0) (get_or t (e * 4 + 2) 0) (get_or t (e * 4 + 3) 0)) ≡ row_of t e
unfolding number row_of
number-row-in t e = rw add-zero

pub number-row : (t : List ℕ) (e : ℕ) → e < 256 → number (four (get_or t (e * 4) 0) (get_or t (e * 4 + 1) 0) (get_or t (e * 4 + 2) 0) (get_or t (e * 4 + 3) 0)) ≡ get_or (rows_of t) e 0
number-row t e h = number-row-in t e ∙ sym (row_at 256 t e h)

-- a table of zeros has empty rows
pub rows_none : rows_of (replicate 1024 0) ≡ replicate 256 0
unfolding rows_in row_of tabulate
rows_none = refl

-- tables of the same rows are the same words
pub rows-injective : (n : ℕ) (t u : List ℕ) → Words t → Words u → length t ≡ n * 4 → length u ≡ n * 4 → rows_in n t ≡ rows_in n u → t ≡ u
unfolding row_of
rows-injective n t u p q l k e =
    ext_get_or 0 t u (l ∙ sym k) (λ i h.
    let f : i / 4 < n = omega arith in
    let d : i / 4 * 4 + i % 4 ≡ i = omega arith in
    let r : row_of t (i / 4) ≡ row_of u (i / 4) = sym (row_at n t (i / 4) f) ∙ ap (λ (x : List ℕ). get_or x (i / 4) 0) e ∙ row_at n u (i / 4) f in
    rw d at (row-injective 4 t u (i / 4 * 4) p q r (i % 4) (omega arith)))

-- ---- a store to a row

abbrev pub put_row : List ℕ → ℕ → Set → List ℕ
put_row t e s = set (set (set (set t (e * 4) s.w0) (e * 4 + 1) s.w1) (e * 4 + 2) s.w2) (e * 4 + 3) s.w3

module _ (t : List ℕ) (e : ℕ) (s : Set) where
  abbrev put1 : List ℕ
  put1 = set t (e * 4) s.w0

  abbrev put2 : List ℕ
  put2 = set put1 (e * 4 + 1) s.w1

  abbrev put3 : List ℕ
  put3 = set put2 (e * 4 + 2) s.w2

  put_other : (k : ℕ) → k ≢ e * 4 → k ≢ e * 4 + 1 → k ≢ e * 4 + 2 → k ≢ e * 4 + 3 → get_or (put_row t e s) k 0 ≡ get_or t k 0
  put_other k a b c d =
      get_or-set_other put3 (e * 4 + 3) k s.w3 0 d ∙ get_or-set_other put2 (e * 4 + 2) k s.w2 0 c
      ∙ get_or-set_other put1 (e * 4 + 1) k s.w1 0 b ∙ get_or-set_other t (e * 4) k s.w0 0 a

  row_other : (f : ℕ) → f ≢ e → row_of (put_row t e s) f ≡ row_of t f
  unfolding row_of
  row_other f n = ap joined (words_same 4 (put_row t e s) t (f * 4) 0 (λ j p q. put_other (f * 4 + j) (λ x. n (omega arith)) (λ x. n (omega arith)) (λ x. n (omega arith)) (λ x. n (omega arith))))

  row_same : e * 4 + 4 ≤ length t → row_of (put_row t e s) e ≡ number s
  unfolding row_of number
  row_same h =
      let x0 : get_or (put_row t e s) (e * 4 + 0) 0 ≡ s.w0 = rw add-zero
      (get_or-set_other put3 (e * 4 + 3) (e * 4) s.w3 0 (λ q. omega arith) ∙ get_or-set_other put2 (e * 4 + 2) (e * 4) s.w2 0 (λ q. omega arith)
      ∙ get_or-set_other put1 (e * 4 + 1) (e * 4) s.w1 0 (λ q. omega arith) ∙ get_or-set_same t (e * 4) s.w0 0 (omega arith)) in
      let x1 : get_or (put_row t e s) (e * 4 + 1) 0 ≡ s.w1 =
      get_or-set_other put3 (e * 4 + 3) (e * 4 + 1) s.w3 0 (λ q. omega arith) ∙ get_or-set_other put2 (e * 4 + 2) (e * 4 + 1) s.w2 0 (λ q. omega arith)
      ∙ get_or-set_same put1 (e * 4 + 1) s.w1 0 (simp length-set (omega arith)) in
      let x2 : get_or (put_row t e s) (e * 4 + 2) 0 ≡ s.w2 =
      get_or-set_other put3 (e * 4 + 3) (e * 4 + 2) s.w3 0 (λ q. omega arith) ∙ get_or-set_same put2 (e * 4 + 2) s.w2 0 (simp length-set (omega arith)) in
      let x3 : get_or (put_row t e s) (e * 4 + 3) 0 ≡ s.w3 = get_or-set_same put3 (e * 4 + 3) s.w3 0 (simp length-set (omega arith)) in
      rw (x0, x1, x2, x3)

  -- to the rows as numbers it is a store of the set's number
  pub rows-put : (n : ℕ) → n * 4 ≤ length t → e < n → rows_in n (put_row t e s) ≡ set (rows_in n t) e (number s)
  unfolding rows_in
  rows-put n l h =
      ext_get_or 0 (rows_in n (put_row t e s)) (set (rows_in n t) e (number s))
      (length-tabulate n (row_of (put_row t e s)) ∙ sym (length-set (rows_in n t) e (number s) ∙ length-tabulate n (row_of t)))
      (λ f p. let q : f < n = rw (length-tabulate n (row_of (put_row t e s))) at p in
      row_at n (put_row t e s) f q
      ∙ cases (eqb f e)
      (λ b. let z : f ≡ e = eqb-true f e b in rw z (row_same (omega arith) ∙ sym (get_or-set_same (rows_in n t) e (number s) 0 (rw (length-tabulate n (row_of t)) h))))
      (λ b. let z : f ≢ e = eqb-false f e b in row_other f z ∙ sym (get_or-set_other (rows_in n t) e f (number s) 0 z ∙ row_at n t f q)))

pub rows_join : (n : ℕ) (t u : List ℕ) (e a : ℕ) (r : Set) (b : ℕ) → n * 4 ≤ length t → e < n → a ≡ row_of t e → number r ≡ union a b → u ≡ put_row t e r
    → rows_in n u ≡ set (rows_in n t) e (union (get_or (rows_in n t) e 0) b)
rows_join n t u e a r b l h p q k = rw (k, row_at n t e h, ← p, ← q) (rows-put t e r n l h)

pub rows-set : (n : ℕ) (t u : List ℕ) (e : ℕ) (s : Set) → n * 4 ≤ length t → e < n → u ≡ put_row t e s → rows_in n u ≡ set (rows_in n t) e (number s)
rows-set n t u e s l h k = rw k (rows-put t e s n l h)
