-- The laws of membership, for all numbers.
-- Assumes nothing.
use Rattle.std.specs.Prelude.{ℕ, zero, suc, ◌+◌, ◌-◌, ◌*◌, ◌/◌, ◌%◌, ◌^◌, ◌≤◌, ◌<◌, min, max, ◌≡◌, refl, Bool, true, false, not, ◌&&◌, ◌||◌, cond, ◌⊎◌, ltb, eqb}
use Rattle.std.proofs.Common.{sym, ap, ap₂, ◌∙◌, inl, inr, mod-lt, zero-lt-suc, pow-suc, div-one, mul_comm, not-suc-le-zero, mul-div_cancel, div-lt_iff_lt-mul, lt_of_lt_of_le, one-mul, zero-add, lt_of_not-le, not-le_of_lt, add-one, arith, pow_pos, pow_mono, shr-shr, shl_exact, lit<, eq-eqb, lt-ltb, le-ltb, ltb-true, ltb-false, eqb-true}
use Rattle.std.proofs.Math.Bool.{and-true, and-false, or-false, or_self}
use Rattle.std.proofs.Math.Nat.{zero-min, min-zero, suc-min-suc, zero-max, max-zero, suc-max-suc, zero-div, zero-mod, div-div-eq-div-mul, sub-zero, zero-sub, mul-mod_left, div-eq_of_lt}
use Rattle.std.proofs.Math.Arith.{digits_div, digits_mod, bin_ind, lt-one, lt_of_le-ne}
use Rattle.std.proofs.Math.Dec.{eqb-zero-suc, eqb-suc-zero, eqb-suc-suc}
use Rattle.std.proofs.lemmas.Bool.{eqb-false}
use Rattle.std.specs.Int.Bits.{bitwise_step, bit_and, bit_or, and_step, or_step, or_shifted_r}
use Rattle.std.proofs.lemmas.Nat.{and_mask, ones_cat}
use Rattle.std.specs.Int.Count.{count_trailing_zeros, ones}
use Rattle.general.specs.Cases.{contra, not_so, cases, both, neither, same_test}
use Rattle.general.specs.Below.{tally}
use Rattle.sets.specs.Set.{is_set, all_below, has, union, inter, minus, only, size, lowest, within, put_if, collect}

two_pos : zero < 2
two_pos = zero-lt-suc 1

-- ---- membership, digit by digit

pub has-zero : (s : ℕ) → has s zero ≡ is_set (s % 2)
unfolding has
has-zero s = rw div-one

pub has-suc : (s e : ℕ) → has s (suc e) ≡ has (s / 2) e
unfolding has
has-suc s e = rw (pow-suc, mul_comm (2 ^ e) 2, ← div-div-eq-div-mul s 2 (2 ^ e))

-- ---- an operation digit by digit is one member by member

module _ (op f : ℕ → ℕ → ℕ) (g : Bool → Bool → Bool)
    (step : (a b : ℕ) → op a b ≡ op (a / 2) (b / 2) * 2 + f (a % 2) (b % 2))
    (small : (x y : ℕ) → x < 2 → y < 2 → f x y < 2)
    (digit : (x y : ℕ) → x < 2 → y < 2 → is_set (f x y) ≡ g (is_set x) (is_set y)) where
  op-has : (a b e : ℕ) → has (op a b) e ≡ g (has a e) (has b e)
  op-has a b zero =
      has-zero (op a b)
      ∙ ap (λ (x : ℕ). is_set (x % 2)) (step a b)
      ∙ ap is_set (digits_mod (op (a / 2) (b / 2)) (small (a % 2) (b % 2) (mod-lt a two_pos) (mod-lt b two_pos)))
      ∙ digit (a % 2) (b % 2) (mod-lt a two_pos) (mod-lt b two_pos)
      ∙ ap₂ g (sym (has-zero a)) (sym (has-zero b))
  op-has a b (suc e) =
      has-suc (op a b) e
      ∙ ap (λ (x : ℕ). has (x / 2) e) (step a b)
      ∙ ap (λ (x : ℕ). has x e) (digits_div (op (a / 2) (b / 2)) (small (a % 2) (b % 2) (mod-lt a two_pos) (mod-lt b two_pos)))
      ∙ op-has (a / 2) (b / 2) e
      ∙ ap₂ g (sym (has-suc a e)) (sym (has-suc b e))

is_set-max : (p q : ℕ) → is_set (max p q) ≡ (is_set p || is_set q)
is_set-max zero q = ap is_set (zero-max q)
is_set-max (suc p) zero = ap is_set (max-zero (suc p))
is_set-max (suc p) (suc q) = ap is_set (suc-max-suc p q)

is_set-min : (p q : ℕ) → is_set (min p q) ≡ (is_set p && is_set q)
is_set-min zero q = ap is_set (zero-min q)
is_set-min (suc p) zero = ap is_set (min-zero (suc p))
is_set-min (suc p) (suc q) = ap is_set (suc-min-suc p q)

is_set-sub : (p q : ℕ) → p < 2 → q < 2 → is_set (p - q) ≡ (is_set p && not (is_set q))
is_set-sub zero q hp hq = ap is_set (zero-sub q)
is_set-sub (suc p) zero hp hq = ap is_set (sub-zero (suc p))
is_set-sub (suc p) (suc q) hp hq = let e : suc p - suc q ≡ zero = omega arith in ap is_set e

pub has-union : (a b e : ℕ) → has (union a b) e ≡ (has a e || has b e)
has-union = op-has bit_or max ◌||◌ or_step (λ x y hx hy. omega arith) (λ x y hx hy. is_set-max x y)

pub has-inter : (a b e : ℕ) → has (inter a b) e ≡ (has a e && has b e)
has-inter = op-has bit_and min ◌&&◌ and_step (λ x y hx hy. omega arith) (λ x y hx hy. is_set-min x y)

pub minus-step : (a b : ℕ) → minus a b ≡ minus (a / 2) (b / 2) * 2 + (a % 2 - b % 2)
minus-step = bitwise_step (λ b. zero) (λ x y. x - y) (λ b. omega arith)

pub has-minus : (a b e : ℕ) → has (minus a b) e ≡ (has a e && not (has b e))
has-minus = op-has minus (λ x y. x - y) (λ x y. x && not y) minus-step (λ x y hx hy. omega arith) is_set-sub

-- ---- the empty set, and one member

pub has-empty : (e : ℕ) → has zero e ≡ false
unfolding has
has-empty e = rw zero-div

-- ---- two sets with the same members are one

digit-ext : (x y : ℕ) → x < 2 → y < 2 → is_set x ≡ is_set y → x ≡ y
digit-ext zero zero hx hy e = refl
digit-ext zero (suc y) hx hy e = let z : ◌≡◌ {A = ℕ} 0 1 = cc in omega arith
digit-ext (suc x) zero hx hy e = let z : ◌≡◌ {A = ℕ} 0 1 = cc in omega arith
digit-ext (suc x) (suc y) hx hy e = omega arith

pub none-zero : (b : ℕ) → ((e : ℕ) → has b e ≡ false) → b ≡ zero
none-zero =
    bin_ind (λ (n : ℕ). ((e : ℕ) → has n e ≡ false) → n ≡ zero) (λ h. refl)
    (λ n ih h.
    let up : n / 2 ≡ zero = ih (λ e. sym (has-suc n e) ∙ h (suc e)) in
    let low : n % 2 ≡ zero = digit-ext (n % 2) zero (mod-lt n two_pos) two_pos (sym (has-zero n) ∙ h zero) in
    omega arith)

pub ext : (a b : ℕ) → ((e : ℕ) → has a e ≡ has b e) → a ≡ b
ext =
    bin_ind (λ (n : ℕ). (b : ℕ) → ((e : ℕ) → has n e ≡ has b e) → n ≡ b)
    (λ b h. sym (none-zero b (λ e. sym (h e) ∙ has-empty e)))
    (λ n ih b h.
    let up : n / 2 ≡ b / 2 = ih (b / 2) (λ e. sym (has-suc n e) ∙ h (suc e) ∙ has-suc b e) in
    let low : n % 2 ≡ b % 2 = digit-ext (n % 2) (b % 2) (mod-lt n two_pos) (mod-lt b two_pos) (sym (has-zero n) ∙ h zero ∙ has-zero b) in
    omega arith)

pub has-only : (e f : ℕ) → has (only e) f ≡ eqb e f
has-only zero zero = has-zero 1
has-only zero (suc f) = has-suc 1 f ∙ has-empty f ∙ sym (eqb-zero-suc f)
has-only (suc e) zero = has-zero (2 ^ suc e) ∙ rw (pow-suc, mul-mod_left) (sym (eqb-suc-zero e))
has-only (suc e) (suc f) =
    has-suc (2 ^ suc e) f ∙ rw (pow-suc, mul-div_cancel (2 ^ e) two_pos) (has-only e f ∙ sym (eqb-suc-suc e f))

-- ---- `a & !b` at a width of k digits, where `!b` is (2 ^ k - 1) - b

pub and-not : (k a b : ℕ) → a < 2 ^ k → b < 2 ^ k → bit_and a ((2 ^ k - 1) - b) ≡ minus a b
and-not zero a b ha hb = rw (lt-one ha)
and-not (suc k) a b ha hb =
    let p : 2 ^ suc k ≡ 2 ^ k * 2 = pow-suc 2 k in
    let q : 1 ≤ 2 ^ k = pow_pos k in
    let up : ((2 ^ suc k - 1) - b) / 2 ≡ (2 ^ k - 1) - b / 2 = omega arith in
    let low : min (a % 2) (((2 ^ suc k - 1) - b) % 2) ≡ a % 2 - b % 2 = omega arith in
    let ha' : a / 2 < 2 ^ k = omega arith in
    let hb' : b / 2 < 2 ^ k = omega arith in
    and_step a ((2 ^ suc k - 1) - b)
    ∙ ap₂ (λ (x y : ℕ). x * 2 + y) (ap (bit_and (a / 2)) up ∙ and-not k (a / 2) (b / 2) ha' hb') low
    ∙ sym (minus-step a b)

-- ---- a set has no member at or above w where it is below 2 ^ w, and only there

pub above : (w s e : ℕ) → s < 2 ^ w → w ≤ e → has s e ≡ false
unfolding has
above w s e h l = rw (div-eq_of_lt (lt_of_lt_of_le h (pow_mono l)))

has-shift : (s w e : ℕ) → has (s / 2 ^ w) e ≡ has s (w + e)
unfolding has
has-shift s w e = rw (shr-shr s w e)

pub below : (w s : ℕ) → ((e : ℕ) → w ≤ e → has s e ≡ false) → s < 2 ^ w
below w s h =
    let z : s / 2 ^ w ≡ zero = none-zero (s / 2 ^ w) (λ e. has-shift s w e ∙ h (w + e) (omega arith)) in
    let l : s / 2 ^ w < 1 = omega arith in
    rw one-mul at ((div-lt_iff_lt-mul (pow_pos w)).0 l)

-- ---- the lowest member

lowest-zero : (w s : ℕ) → s % 2 ≡ 1 → lowest (suc w) s ≡ zero
unfolding count_trailing_zeros
lowest-zero w s e = rw e

lowest-suc : (w s : ℕ) → s % 2 ≡ zero → lowest (suc w) s ≡ suc (lowest w (s / 2))
unfolding count_trailing_zeros
lowest-suc w s e = rw e

digit-cases : (s : ℕ) → (s % 2 ≡ zero) ⊎ (s % 2 ≡ 1)
digit-cases s = go (s % 2) (mod-lt s two_pos)
  where
    go : (d : ℕ) → d < 2 → (d ≡ zero) ⊎ (d ≡ 1)
    go zero h = inl refl
    go (suc d) h = inr (omega arith)

-- a member has the least place: nothing below it is a member
pub lowest-least : (w s e : ℕ) → e < lowest w s → has s e ≡ false
unfolding count_trailing_zeros
lowest-least zero s e h = absurd (not-suc-le-zero h)
lowest-least (suc w) s zero h = go (digit-cases s)
  where
    go : (s % 2 ≡ zero) ⊎ (s % 2 ≡ 1) → has s zero ≡ false
    go (inl d) = has-zero s ∙ ap is_set d
    go (inr d) = let z : lowest (suc w) s ≡ zero = lowest-zero w s d in absurd (omega arith)
lowest-least (suc w) s (suc e) h = go (digit-cases s) (lowest-least w (s / 2) e)
  where
    go : (s % 2 ≡ zero) ⊎ (s % 2 ≡ 1) → (e < lowest w (s / 2) → has (s / 2) e ≡ false) → has s (suc e) ≡ false
    go (inl d) ih = let z : lowest (suc w) s ≡ suc (lowest w (s / 2)) = lowest-suc w s d in has-suc s e ∙ ih (omega arith)
    go (inr d) ih = let z : lowest (suc w) s ≡ zero = lowest-zero w s d in absurd (omega arith)

pub lowest-has : (w s : ℕ) → lowest w s < w → has s (lowest w s) ≡ true
lowest-has zero s h = absurd (not-suc-le-zero h)
lowest-has (suc w) s h = go (digit-cases s) (lowest-has w (s / 2))
  where
    go : (s % 2 ≡ zero) ⊎ (s % 2 ≡ 1) → (lowest w (s / 2) < w → has (s / 2) (lowest w (s / 2)) ≡ true) → has s (lowest (suc w) s) ≡ true
    go (inl d) ih =
        let z : lowest (suc w) s ≡ suc (lowest w (s / 2)) = lowest-suc w s d in
        rw z (has-suc s (lowest w (s / 2)) ∙ ih (omega arith))
    go (inr d) ih = rw (lowest-zero w s d) (has-zero s ∙ ap is_set d)

-- some member below w
pub lowest-lt : (w s : ℕ) → zero < s → s < 2 ^ w → lowest w s < w
lowest-lt zero s p h = let z : s ≡ zero = lt-one h in absurd (omega arith)
lowest-lt (suc w) s p h = go (digit-cases s) (lowest-lt w (s / 2))
  where
    go : (s % 2 ≡ zero) ⊎ (s % 2 ≡ 1) → (zero < s / 2 → s / 2 < 2 ^ w → lowest w (s / 2) < w) → lowest (suc w) s < suc w
    go (inl d) ih =
        let z : lowest (suc w) s ≡ suc (lowest w (s / 2)) = lowest-suc w s d in
        let q : 2 ^ suc w ≡ 2 ^ w * 2 = pow-suc 2 w in
        let l : lowest w (s / 2) < w = ih (omega arith) (omega arith) in
        omega arith
    go (inr d) ih = let z : lowest (suc w) s ≡ zero = lowest-zero w s d in omega arith

pub lowest-none : (w : ℕ) → lowest w zero ≡ w
unfolding count_trailing_zeros
lowest-none zero = refl
lowest-none (suc w) = lowest-suc w zero (zero-mod 2) ∙ rw (zero-div, lowest-none w)

-- ---- what the code computes

digit-eqb : (d : ℕ) → d < 2 → eqb d 1 ≡ is_set d
digit-eqb zero h = refl
digit-eqb (suc d) h = eq-eqb (suc d) 1 (omega arith)

-- `(s >> e) & 1 == 1`
pub test_bit : (s e : ℕ) → eqb (bit_and (s / 2 ^ e) 1) 1 ≡ has s e
unfolding has
test_bit s e = ap (λ (x : ℕ). eqb x 1) (and_mask (s / 2 ^ e) 1) ∙ digit-eqb (s / 2 ^ e % 2) (mod-lt (s / 2 ^ e) two_pos)

-- `1 << e` at w digits
pub one_bit : (w e : ℕ) → e < w → (1 * 2 ^ e) % 2 ^ w ≡ only e
one_bit w e h = shl_exact 1 e w (lit< tt) (omega arith) ∙ one-mul (2 ^ e)

-- a set of w digits is within any longer width
pub within-wide : (w n s : ℕ) → s < 2 ^ w → w ≤ n → true ≡ within n s
within-wide w n s h l = sym (lt-ltb s (2 ^ n) (lt_of_lt_of_le h (pow_mono l)))

-- a difference is no larger than what it is taken from
pub minus-le : (a b : ℕ) → minus a b ≤ a
minus-le =
    bin_ind (λ (n : ℕ). (b : ℕ) → minus n b ≤ n) (λ b. omega arith)
    (λ n ih b.
    let s : minus n b ≡ minus (n / 2) (b / 2) * 2 + (n % 2 - b % 2) = minus-step n b in
    let l : minus (n / 2) (b / 2) ≤ n / 2 = ih (b / 2) in
    omega arith)

-- ---- sets by a test

has-put : (s n e : ℕ) (b : Bool) → has (put_if s n b) e ≡ (has s e || (eqb n e && b))
has-put s n e true = has-union s (only n) e ∙ rw (has-only n e, and-true (eqb n e))
has-put s n e false = sym (ap (λ (x : Bool). has s e || x) (and-false (eqb n e)) ∙ or-false (has s e))

-- one more test: e is n, or e is below n
ltb-suc : (e n : ℕ) → ltb e (suc n) ≡ (ltb e n || eqb n e)
ltb-suc e n = go (eqb n e) refl (ltb e n) refl
  where
    go : (b : Bool) → eqb n e ≡ b → (l : Bool) → ltb e n ≡ l → ltb e (suc n) ≡ (l || b)
    go b p true q = let h : e < n = ltb-true e n q in lt-ltb e (suc n) (omega arith)
    go true p false q = let h : n ≡ e = eqb-true n e p in lt-ltb e (suc n) (omega arith)
    go false p false q =
        let h : n ≤ e = ltb-false e n q in
        le-ltb e (suc n) (lt_of_le-ne h (eqb-false n e p))

pub has-collect : (n : ℕ) (p : ℕ → Bool) (e : ℕ) → has (collect n p) e ≡ (ltb e n && p e)
unfolding collect
has-collect zero p e = has-empty e ∙ rw (le-ltb e 0 (omega arith))
has-collect (suc n) p e =
    has-put (collect n p) n e (p n)
    ∙ rw (has-collect n p e, ltb-suc e n) (go (eqb n e) refl (ltb e n))
  where
    go : (b : Bool) → eqb n e ≡ b → (l : Bool) → ((l && p e) || (b && p n)) ≡ ((l || b) && p e)
    go true q true = rw (eqb-true n e q, or_self (p e))
    go true q false = rw (eqb-true n e q)
    go false q true = or-false (p e)
    go false q false = refl

pub collect-step : (n : ℕ) (p : ℕ → Bool) → collect (n + 1) p ≡ put_if (collect n p) n (p n)
unfolding collect
collect-step n p = rw add-one

-- ---- tests on sets, by their members

pub within-lt : (n s f : ℕ) → within n s ≡ true → has s f ≡ true → f < n
within-lt n s f h m = lt_of_not-le (λ l. contra m (above n s f (ltb-true s (2 ^ n) h) l))

pub lt-within : (n s : ℕ) → ((f : ℕ) → has s f ≡ true → f < n) → within n s ≡ true
lt-within n s h = lt-ltb s (2 ^ n) (below n s (λ e l. not_so (λ m. not-le_of_lt (h e m) l)))

pub apart-not : (a b f : ℕ) → inter a b ≡ zero → has a f ≡ true → has b f ≡ true → ⊥
apart-not a b f z ha hb = contra (has-inter a b f ∙ ap₂ ◌&&◌ ha hb) (ap (λ (x : ℕ). has x f) z ∙ has-empty f)

pub not-apart : (a b : ℕ) → ((f : ℕ) → has a f ≡ true → has b f ≡ true → ⊥) → inter a b ≡ zero
not-apart a b h = none-zero (inter a b) (λ f. not_so (λ m. go f (has a f) refl (has b f) refl (sym (has-inter a b f) ∙ m)))
  where
    go : (f : ℕ) (x : Bool) → has a f ≡ x → (y : Bool) → has b f ≡ y → (has a f && has b f) ≡ true → ⊥
    go f true p true q m = h f p q
    go f true p false q m = contra m (ap₂ ◌&&◌ p q)
    go f false p y q m = contra m (ap₂ ◌&&◌ p q)

-- ---- how many

collect-lt : (n : ℕ) (p : ℕ → Bool) → collect n p < 2 ^ n
collect-lt n p = below n (collect n p) (λ e l. has-collect n p e ∙ rw (le-ltb e n l))

pub size-collect : (n : ℕ) (p : ℕ → Bool) → size (collect n p) ≡ tally n p
unfolding collect tally ones
size-collect zero p = refl
size-collect (suc n) p = go (p n) (collect n p) (collect-lt n p) (size-collect n p)
  where
    go : (b : Bool) (s : ℕ) → s < 2 ^ n → size s ≡ tally n p → size (put_if s n b) ≡ cond b 1 0 + tally n p
    go true s l ih =
        ap (λ (x : ℕ). size (union s x)) (sym (one-mul (2 ^ n))) ∙ ap ones (or_shifted_r 1 n s l) ∙ ones_cat n 1 s l ∙ ap (λ (x : ℕ). 1 + x) ih
    go false s l ih = ih ∙ sym (zero-add (tally n p))

-- ---- all below n

pub has_all : (n e : ℕ) → has (all_below n) e ≡ ltb e n
has_all zero e = has-empty e ∙ rw (le-ltb e 0 (omega arith))
has_all (suc n) zero =
    let p : 2 ^ suc n ≡ 2 ^ n * 2 = pow-suc 2 n in
    let q : 1 ≤ 2 ^ n = pow_pos n in
    let d : all_below (suc n) % 2 ≡ 1 = omega arith in
    has-zero (all_below (suc n)) ∙ ap is_set d ∙ sym (lt-ltb 0 (suc n) (omega arith))
has_all (suc n) (suc e) =
    let p : 2 ^ suc n ≡ 2 ^ n * 2 = pow-suc 2 n in
    let q : 1 ≤ 2 ^ n = pow_pos n in
    let h : all_below (suc n) / 2 ≡ all_below n = omega arith in
    has-suc (all_below (suc n)) e ∙ ap (λ (x : ℕ). has x e) h ∙ has_all n e ∙ ltb-both e n
  where
    ltb-both : (e n : ℕ) → ltb e n ≡ ltb (suc e) (suc n)
    ltb-both e n = same_test (ltb e n) (ltb (suc e) (suc n)) (λ t. let h : e < n = ltb-true e n t in lt-ltb (suc e) (suc n) (omega arith))
        (λ t. let h : suc e < suc n = ltb-true (suc e) (suc n) t in lt-ltb e n (omega arith))

pub union-zero : (a b : ℕ) → eqb (union a b) 0 ≡ (eqb a 0 && eqb b 0)
union-zero a b =
    same_test (eqb (union a b) 0) (eqb a 0 && eqb b 0)
    (λ t. let z : union a b ≡ 0 = eqb-true (union a b) 0 t in
    let none : (e : ℕ) → (has a e || has b e) ≡ false = λ e. sym (has-union a b e) ∙ ap (λ (x : ℕ). has x e) z ∙ has-empty e in
    let p : a ≡ 0 = none-zero a (λ e. (neither (has a e) (has b e) (none e)).0) in
    let q : b ≡ 0 = none-zero b (λ e. (neither (has a e) (has b e) (none e)).1) in
    rw (eq-eqb a 0 p, eq-eqb b 0 q))
    (λ t. let u = both (eqb a 0) (eqb b 0) t in
    eq-eqb (union a b) 0 (none-zero (union a b) (λ e. has-union a b e ∙ rw (eqb-true a 0 u.0, eqb-true b 0 u.1, has-empty e))))

-- s has nothing that t has not
pub minus-none : (s t : ℕ) → minus s t ≡ 0 → (e : ℕ) → has s e ≡ true → has t e ≡ true
minus-none s t z e h = cases (has t e) (λ x. x) (λ x. contra (has-minus s t e ∙ rw (h, x)) (ap (λ (y : ℕ). has y e) z ∙ has-empty e))

pub none-minus : (s t : ℕ) → ((e : ℕ) → has s e ≡ true → has t e ≡ true) → minus s t ≡ 0
none-minus s t h = none-zero (minus s t) (λ e. has-minus s t e ∙ cases (has s e) (λ x. rw (x, h e x)) (λ x. rw x))

-- what the code makes of w digits that are all set: as many as it has
pub all-wide : (w n : ℕ) → n ≤ w → w ≤ n → all_below w ≡ all_below n
all-wide w n h l = let e : w ≡ n = omega arith in ap all_below e
