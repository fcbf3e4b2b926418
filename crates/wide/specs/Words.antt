-- Words of 64 digits, the lowest first, joined to one number: what is done word by word is done to the number, for any number of words.
-- Assumes nothing.
use Rattle.std.specs.Prelude.{ℕ, zero, suc, ◌+◌, ◌-◌, ◌*◌, ◌/◌, ◌%◌, ◌^◌, ◌≤◌, ◌<◌, min, ◌≡◌, refl, ◌&&◌, List, [], ◌∷◌, ltb, eqb, get_or, length}
use Rattle.std.proofs.Common.{sym, ap, ap₂, ◌∙◌, arith, zero-add, add-zero, mul_assoc, mul-one, pow-suc, add-suc, suc-add, suc-mul, pow-add, shr-shr, eq-eqb, eqb-true, ltb-true, ltb-false}
use Rattle.std.proofs.Math.Arith.{digits_lt, lt-one}
use Rattle.std.proofs.Math.Pow.{high, low, ones_split}
use Rattle.std.specs.Int.Bits.{bitwise_block, block_half, block_odd, shifted_half, shifted_even}
use Rattle.std.proofs.lemmas.Nat.{and_block, or_block, ones_cat}
use Rattle.std.specs.Int.Count.{count_trailing_zeros, under, ones}
use Rattle.general.specs.Cases.{cases, both, same_test}
use Rattle.sets.specs.Set.{has, union, inter, minus, only, size, lowest, all_below, is_set}
use Rattle.sets.specs.Laws.{has-zero, has-suc, has-empty, union-zero}

abbrev pub joined : List ℕ → ℕ
joined [] = 0
joined (w ∷ ws) = joined ws * 2 ^ 64 + w

-- each word has 64 digits
pub data Words : List ℕ → Type 0 where
  none : Words []
  more : {w : ℕ} {ws : List ℕ} → w < 2 ^ 64 → Words ws → Words (w ∷ ws)

-- ---- what is done word by word

abbrev pub each : (ℕ → ℕ → ℕ) → List ℕ → List ℕ → List ℕ
each f [] vs = []
each f (w ∷ ws) [] = []
each f (w ∷ ws) (v ∷ vs) = f w v ∷ each f ws vs

module _ (op : ℕ → ℕ → ℕ) (op-zero : op 0 0 ≡ 0)
    (block : (k a b r s : ℕ) → r < 2 ^ k → s < 2 ^ k → op (a * 2 ^ k + r) (b * 2 ^ k + s) ≡ op a b * 2 ^ k + op r s) where
  each-joined : (ws vs : List ℕ) → Words ws → Words vs → length ws ≡ length vs → joined (each op ws vs) ≡ op (joined ws) (joined vs)
  each-joined [] [] none none e = sym op-zero
  each-joined [] (v ∷ vs) none q e = absurd (omega arith)
  each-joined (w ∷ ws) [] p none e = absurd (omega arith)
  each-joined (w ∷ ws) (v ∷ vs) (more hw p) (more hv q) e =
      ap (λ (x : ℕ). x * 2 ^ 64 + op w v) (each-joined ws vs p q (omega arith))
      ∙ sym (block 64 (joined ws) (joined vs) w v hw hv)

minus-block : (k a b r s : ℕ) → r < 2 ^ k → s < 2 ^ k → minus (a * 2 ^ k + r) (b * 2 ^ k + s) ≡ minus a b * 2 ^ k + minus r s
minus-block = bitwise_block (λ b. zero) (λ x y. x - y) (λ b. omega arith) refl

pub joined-union : (ws vs : List ℕ) → Words ws → Words vs → length ws ≡ length vs → joined (each union ws vs) ≡ union (joined ws) (joined vs)
joined-union = each-joined union refl or_block

pub joined-inter : (ws vs : List ℕ) → Words ws → Words vs → length ws ≡ length vs → joined (each inter ws vs) ≡ inter (joined ws) (joined vs)
joined-inter = each-joined inter refl and_block

pub joined-minus : (ws vs : List ℕ) → Words ws → Words vs → length ws ≡ length vs → joined (each minus ws vs) ≡ minus (joined ws) (joined vs)
joined-minus = each-joined minus refl minus-block

-- ---- membership

has-shift : (s w e : ℕ) → has (s / 2 ^ w) e ≡ has s (w + e)
unfolding has
has-shift s w e = rw (shr-shr s w e)

has-high : (k a r e : ℕ) → r < 2 ^ k → has (a * 2 ^ k + r) (k + e) ≡ has a e
has-high k a r e h = sym (has-shift (a * 2 ^ k + r) k e) ∙ ap (λ (x : ℕ). has x e) (high a k h)

has-low : (k a r e : ℕ) → e < k → has (a * 2 ^ k + r) e ≡ has r e
has-low zero a r e h = absurd (omega arith)
has-low (suc k) a r zero h = has-zero (a * 2 ^ suc k + r) ∙ ap is_set (block_odd a k r) ∙ sym (has-zero r)
has-low (suc k) a r (suc e) h =
    has-suc (a * 2 ^ suc k + r) e ∙ ap (λ (x : ℕ). has x e) (block_half a k r) ∙ has-low k a (r / 2) e (omega arith) ∙ sym (has-suc r e)

pub joined-has : (ws : List ℕ) → Words ws → (e : ℕ) → has (joined ws) e ≡ has (get_or ws (e / 64) 0) (e % 64)
joined-has [] none e = has-empty e ∙ sym (has-empty (e % 64))
joined-has (w ∷ ws) (more h p) e =
    cases (ltb e 64)
    (λ t. let l : e < 64 = ltb-true e 64 t in
    let q : e / 64 ≡ 0 = omega arith in
    let m : e % 64 ≡ e = omega arith in
    has-low 64 (joined ws) w e l ∙ rw (q, m))
    (λ t. let l : 64 ≤ e = ltb-false e 64 t in
    let s : 64 + (e - 64) ≡ e = omega arith in
    let q : e / 64 ≡ suc ((e - 64) / 64) = omega arith in
    let m : e % 64 ≡ (e - 64) % 64 = omega arith in
    ap (has (joined (w ∷ ws))) (sym s) ∙ has-high 64 (joined ws) w (e - 64) h ∙ joined-has ws p (e - 64) ∙ rw (q, m))

-- ---- how many

abbrev pub sizes : List ℕ → ℕ
sizes [] = 0
sizes (w ∷ ws) = sizes ws + size w

pub joined-size : (ws : List ℕ) → Words ws → size (joined ws) ≡ sizes ws
unfolding ones
joined-size [] none = refl
joined-size (w ∷ ws) (more h p) = ones_cat 64 (joined ws) w h ∙ ap (λ (x : ℕ). x + size w) (joined-size ws p)

-- ---- the lowest member

lowest-low : (k m a r : ℕ) → 0 < r → r < 2 ^ k → lowest (m + k) (a * 2 ^ k + r) ≡ lowest k r
unfolding count_trailing_zeros
lowest-low zero m a r p h = let z : r ≡ 0 = lt-one h in absurd (omega arith)
lowest-low (suc k) m a r p h =
    rw (add-suc m k) (rw (block_odd a k r, block_half a k r) (go (r % 2) refl (lowest-low k m a (r / 2))))
  where
    go : (d : ℕ) → r % 2 ≡ d → (0 < r / 2 → r / 2 < 2 ^ k → lowest (m + k) (a * 2 ^ k + r / 2) ≡ lowest k (r / 2))
        → under d (lowest (m + k) (a * 2 ^ k + r / 2)) ≡ under d (lowest k (r / 2))
    go zero e ih = let q : 2 ^ suc k ≡ 2 ^ k * 2 = pow-suc 2 k in ap suc (ih (omega arith) (omega arith))
    go (suc d) e ih = refl

lowest-high : (k m a : ℕ) → lowest (m + k) (a * 2 ^ k) ≡ lowest m a + k
unfolding count_trailing_zeros
lowest-high zero m a = rw (mul-one, add-zero, add-zero)
lowest-high (suc k) m a = rw (add-suc m k) (rw (shifted_even a k, shifted_half a k) (ap suc (lowest-high k m a) ∙ sym (add-suc (lowest m a) k)))

-- the words from the first that is not empty on
pub lowest-here : (m w : ℕ) (ws : List ℕ) → w < 2 ^ 64 → (w ≡ 0 → ⊥) → lowest 64 w ≡ lowest (m + 64) (joined (w ∷ ws))
lowest-here m w ws h n = sym (lowest-low 64 m (joined ws) w (omega arith) h)

pub lowest-later : (m w : ℕ) (ws : List ℕ) → w ≡ 0 → lowest m (joined ws) + 64 ≡ lowest (m + 64) (joined (w ∷ ws))
lowest-later m w ws e = rw (e, add-zero) (sym (lowest-high 64 m (joined ws)))

-- ---- one member

-- k words, the one at i being b and the others empty
abbrev pub alone : ℕ → ℕ → ℕ → List ℕ
alone zero i b = []
alone (suc k) zero b = b ∷ alone k zero 0
alone (suc k) (suc i) b = 0 ∷ alone k i b

alone-none : (k i : ℕ) → joined (alone k i 0) ≡ 0
alone-none zero i = refl
alone-none (suc k) zero = rw (alone-none k zero)
alone-none (suc k) (suc i) = rw (alone-none k i)

joined-alone : (k i b : ℕ) → i < k → joined (alone k i b) ≡ b * 2 ^ (i * 64)
joined-alone zero i b h = absurd (omega arith)
joined-alone (suc k) zero b h = rw (alone-none k zero) (omega arith)
joined-alone (suc k) (suc i) b h = rw (joined-alone k i b (omega arith), add-zero, suc-mul, pow-add 2 (i * 64) 64) (mul_assoc b (2 ^ (i * 64)) (2 ^ 64))

pub joined-only : (k i e b : ℕ) → i < k → e / 64 ≡ i → b ≡ only (e % 64) → joined (alone k i b) ≡ only e
joined-only k i e b h q p =
    let d : e % 64 + i * 64 ≡ e = omega arith in
    joined-alone k i b h ∙ rw (p, ← pow-add 2 (e % 64) (i * 64), d)

-- ---- all below n

-- k words, from the digit `from` on, of all below n
abbrev pub all_words : ℕ → ℕ → ℕ → List ℕ
all_words zero from n = []
all_words (suc k) from n = all_below (min (n - from) 64) ∷ all_words k (from + 64) n

pub joined-all : (k from n : ℕ) → n ≤ from + k * 64 → joined (all_words k from n) ≡ all_below (n - from)
joined-all zero from n h = let z : n - from ≡ 0 = omega arith in rw z
joined-all (suc k) from n h =
    cases (ltb (n - from) 64)
    (λ t. let l : n - from < 64 = ltb-true (n - from) 64 t in
    let z : n - (from + 64) ≡ 0 = omega arith in
    let m : min (n - from) 64 ≡ n - from = omega arith in
    rw (joined-all k (from + 64) n (omega arith), z, m, zero-add))
    (λ t. let l : 64 ≤ n - from = ltb-false (n - from) 64 t in
    let m : min (n - from) 64 ≡ 64 = omega arith in
    let q : n - from ≡ n - (from + 64) + 64 = omega arith in
    rw (joined-all k (from + 64) n (omega arith), m, q) (sym (ones_split (n - (from + 64)) 64)))

-- ---- the empty set

-- all the words in one
abbrev pub gathered : List ℕ → ℕ
gathered [] = 0
gathered (w ∷ []) = w
gathered (w ∷ v ∷ ws) = union (gathered (v ∷ ws)) w

zero-block : (a w : ℕ) → (eqb a 0 && eqb w 0) ≡ eqb (a * 2 ^ 64 + w) 0
zero-block a w =
    same_test (eqb a 0 && eqb w 0) (eqb (a * 2 ^ 64 + w) 0)
    (λ t. let u = both (eqb a 0) (eqb w 0) t in rw (eqb-true a 0 u.0, eqb-true w 0 u.1))
    (λ t. let z : a * 2 ^ 64 + w ≡ 0 = eqb-true (a * 2 ^ 64 + w) 0 t in rw (eq-eqb a 0 (omega arith), eq-eqb w 0 (omega arith)))

pub joined-empty : (ws : List ℕ) → eqb (gathered ws) 0 ≡ eqb (joined ws) 0
joined-empty [] = refl
joined-empty (w ∷ []) = rw zero-add
joined-empty (w ∷ v ∷ ws) = union-zero (gathered (v ∷ ws)) w ∙ rw (joined-empty (v ∷ ws)) (zero-block (joined (v ∷ ws)) w)

-- ---- a row of a table: the words from `at` on

abbrev pub words_at : ℕ → List ℕ → ℕ → ℕ → List ℕ
words_at zero t at i = []
words_at (suc k) t at i = get_or t (at + i) 0 ∷ words_at k t at (suc i)

-- ---- k words make a number of k * 64 digits, and one number only

pub joined-lt : (ws : List ℕ) → Words ws → joined ws < 2 ^ (length ws * 64)
joined-lt [] none = omega arith
joined-lt (w ∷ ws) (more h p) = rw (suc-mul, pow-add 2 (length ws * 64) 64) (digits_lt (joined-lt ws p) h)

pub joined-injective : (ws vs : List ℕ) → Words ws → Words vs → length ws ≡ length vs → joined ws ≡ joined vs → ws ≡ vs
joined-injective [] [] none none l e = refl
joined-injective [] (v ∷ vs) none q l e = absurd (omega arith)
joined-injective (w ∷ ws) [] p none l e = absurd (omega arith)
joined-injective (w ∷ ws) (v ∷ vs) (more hw p) (more hv q) l e =
    let lo : w ≡ v = sym (low (joined ws) 64 hw) ∙ ap (λ (x : ℕ). x % 2 ^ 64) e ∙ low (joined vs) 64 hv in
    let hi : joined ws ≡ joined vs = sym (high (joined ws) 64 hw) ∙ ap (λ (x : ℕ). x / 2 ^ 64) e ∙ high (joined vs) 64 hv in
    ap₂ ◌∷◌ lo (joined-injective ws vs p q (omega arith) hi)

-- ---- a row's members, digit by digit

words-at : (k : ℕ) (t : List ℕ) (at i j : ℕ) → j < k → get_or (words_at k t at i) j 0 ≡ get_or t (at + (i + j)) 0
words-at zero t at i j h = absurd (omega arith)
words-at (suc k) t at i zero h = rw add-zero
words-at (suc k) t at i (suc j) h = words-at k t at (suc i) j (omega arith) ∙ rw (add-suc, suc-add)

-- past the last word stands none
pub word_below : (ws : List ℕ) → Words ws → (j : ℕ) → get_or ws j 0 < 2 ^ 64
word_below [] none j = omega arith
word_below (w ∷ ws) (more h p) zero = h
word_below (w ∷ ws) (more h p) (suc j) = word_below ws p j

words-fit : (k : ℕ) (t : List ℕ) (at i : ℕ) → ((j : ℕ) → get_or t j 0 < 2 ^ 64) → Words (words_at k t at i)
words-fit zero t at i h = none
words-fit (suc k) t at i h = more (h (at + i)) (words-fit k t at (suc i) h)

-- row a of rows of `width` words has b exactly where digit b % 64 of its word b / 64 is set: what reach calls `bit`
pub row_has : (width : ℕ) (t : List ℕ) (a b : ℕ) → ((j : ℕ) → get_or t j 0 < 2 ^ 64) → b < width * 64
    → has (joined (words_at width t (a * width) 0)) b ≡ has (get_or t (a * width + b / 64) 0) (b % 64)
row_has width t a b h l =
    joined-has (words_at width t (a * width) 0) (words-fit width t (a * width) 0 h) b
    ∙ rw (words-at width t (a * width) 0 (b / 64) (omega arith), zero-add)

-- ---- rows kept apart: what a store to another row leaves

pub words_same : (k : ℕ) (t u : List ℕ) (at i : ℕ) → ((j : ℕ) → i ≤ j → j < i + k → get_or t (at + j) 0 ≡ get_or u (at + j) 0) → words_at k t at i ≡ words_at k u at i
words_same zero t u at i h = refl
words_same (suc k) t u at i h = ap₂ ◌∷◌ (h i (omega arith) (omega arith)) (words_same k t u at (suc i) (λ j p q. h j (omega arith) (omega arith)))

-- ---- and rows of one number hold the same words

wide_at : (k : ℕ) (t : List ℕ) (at i : ℕ) → length (words_at k t at i) ≡ k
wide_at zero t at i = refl
wide_at (suc k) t at i = ap suc (wide_at k t at (suc i))

pub row-injective : (k : ℕ) (t u : List ℕ) (at : ℕ) → Words t → Words u → joined (words_at k t at 0) ≡ joined (words_at k u at 0) → (j : ℕ) → j < k → get_or t (at + j) 0 ≡ get_or u (at + j) 0
row-injective k t u at p q e j h =
    let same : words_at k t at 0 ≡ words_at k u at 0 =
    joined-injective (words_at k t at 0) (words_at k u at 0) (words-fit k t at 0 (word_below t p)) (words-fit k u at 0 (word_below u q)) (wide_at k t at 0 ∙ sym (wide_at k u at 0)) e in
    let v : get_or (words_at k t at 0) j 0 ≡ get_or t (at + j) 0 = words-at k t at 0 j h ∙ rw zero-add in
    let w : get_or (words_at k u at 0) j 0 ≡ get_or u (at + j) 0 = words-at k u at 0 j h ∙ rw zero-add in
    sym v ∙ ap (λ (ws : List ℕ). get_or ws j 0) same ∙ w
