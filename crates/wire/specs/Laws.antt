-- A number written is read back, other bytes stay, and the length too. Assumes nothing.
use Rattle.std.specs.Prelude.{ℕ, ◌+◌, ◌/◌, ◌%◌, ◌≤◌, ◌≡◌, refl, ◌≢◌, List, ◌++◌, length, get_or, set}
use Rattle.std.proofs.Common.{ap, ◌∙◌, add_assoc, arith, get_or-append-add}
use Rattle.std.proofs.Math.ListN.{length-set, get_or-append}
use Rattle.std.proofs.Math.Seq.{get_or-set_same, get_or-set_other}
use Rattle.wire.specs.Wire.{u16_at, u32_at, put16, put32, bytes16, bytes32}

-- ---- where two reads see the same bytes they give the same number

pub u16-same : (s t : List ℕ) (a b : ℕ) → get_or s a 0 ≡ get_or t b 0 → get_or s (a + 1) 0 ≡ get_or t (b + 1) 0 → u16_at s a ≡ u16_at t b
unfolding u16_at
u16-same s t a b p q = rw (p, q)

pub u32-same : (s t : List ℕ) (a b : ℕ) → u16_at s a ≡ u16_at t b → u16_at s (a + 2) ≡ u16_at t (b + 2) → u32_at s a ≡ u32_at t b
unfolding u32_at
u32-same s t a b p q = rw (p, q)

-- ---- joined bytes

module _ (s t : List ℕ) (at : ℕ) where
  pub u16-first : at + 2 ≤ length s → u16_at (s ++ t) at ≡ u16_at s at
  u16-first h = u16-same (s ++ t) s at at (get_or-append s t 0 at (omega arith)) (get_or-append s t 0 (at + 1) (omega arith))

  pub u16-second : u16_at (s ++ t) (length s + at) ≡ u16_at t at
  u16-second =
      u16-same (s ++ t) t (length s + at) at (get_or-append-add s t at 0)
      (ap (λ (n : ℕ). get_or (s ++ t) n 0) (add_assoc (length s) at 1) ∙ get_or-append-add s t (at + 1) 0)

module _ (s t : List ℕ) (at : ℕ) where
  pub u32-first : at + 4 ≤ length s → u32_at (s ++ t) at ≡ u32_at s at
  u32-first h = u32-same (s ++ t) s at at (u16-first s t at (omega arith)) (u16-first s t (at + 2) (omega arith))

  pub u32-second : u32_at (s ++ t) (length s + at) ≡ u32_at t at
  u32-second =
      u32-same (s ++ t) t (length s + at) at (u16-second s t at)
      (ap (u16_at (s ++ t)) (add_assoc (length s) at 2) ∙ u16-second s t (at + 2))

-- ---- a number's own bytes

pub u16-bytes : (n : ℕ) → u16_at (bytes16 n) 0 ≡ n
unfolding u16_at bytes16
u16-bytes n = omega arith

pub length-bytes16 : (n : ℕ) → length (bytes16 n) ≡ 2
unfolding bytes16
length-bytes16 n = refl

pub length-bytes32 : (n : ℕ) → length (bytes32 n) ≡ 4
unfolding bytes32 bytes16
length-bytes32 n = refl

pub u32-bytes : (n : ℕ) → u32_at (bytes32 n) 0 ≡ n
unfolding u32_at u16_at bytes32 bytes16
u32-bytes n = omega arith

-- ---- written in place

module _ (s : List ℕ) (at n : ℕ) where
  pub put16-length : length (put16 s at n) ≡ length s
  unfolding put16
  put16-length = simp length-set

  pub put16-other : (i : ℕ) → i ≢ at → i ≢ at + 1 → get_or (put16 s at n) i 0 ≡ get_or s i 0
  unfolding put16
  put16-other i a b = get_or-set_other (set s at (n % 256)) (at + 1) i (n / 256) 0 b ∙ get_or-set_other s at i (n % 256) 0 a

  pub put16-low : at + 2 ≤ length s → get_or (put16 s at n) at 0 ≡ n % 256
  unfolding put16
  put16-low h =
      get_or-set_other (set s at (n % 256)) (at + 1) at (n / 256) 0 (λ e. omega arith) ∙ get_or-set_same s at (n % 256) 0 (omega arith)

  pub put16-high : at + 2 ≤ length s → get_or (put16 s at n) (at + 1) 0 ≡ n / 256
  unfolding put16
  put16-high h = get_or-set_same (set s at (n % 256)) (at + 1) (n / 256) 0 (simp length-set (omega arith))

  pub read-put16 : at + 2 ≤ length s → u16_at (put16 s at n) at ≡ n
  unfolding u16_at
  read-put16 h = rw (put16-low h, put16-high h) (omega arith)

-- a number that lies before or behind it stays as it was
pub put16-before : (s : List ℕ) (at n i : ℕ) → i + 2 ≤ at → u16_at (put16 s at n) i ≡ u16_at s i
put16-before s at n i h =
    u16-same (put16 s at n) s i i (put16-other s at n i (λ e. omega arith) (λ e. omega arith))
    (put16-other s at n (i + 1) (λ e. omega arith) (λ e. omega arith))

pub put32-other : (s : List ℕ) (at n i : ℕ) → i ≢ at → i ≢ at + 1 → i ≢ at + 2 → i ≢ at + 3 → get_or (put32 s at n) i 0 ≡ get_or s i 0
unfolding put32
put32-other s at n i a b c d =
    put16-other (put16 s at (n % 65536)) (at + 2) (n / 65536) i c (λ e. d (omega arith)) ∙ put16-other s at (n % 65536) i a b

pub read-put32 : (s : List ℕ) (at n : ℕ) → at + 4 ≤ length s → u32_at (put32 s at n) at ≡ n
unfolding u32_at put32
read-put32 s at n h =
    let t : List ℕ = put16 s at (n % 65536) in
    let l : length t ≡ length s = put16-length s at (n % 65536) in
    let p : u16_at (put16 t (at + 2) (n / 65536)) at ≡ n % 65536 =
    put16-before t (at + 2) (n / 65536) at (omega arith) ∙ read-put16 s at (n % 65536) (omega arith) in
    let q : u16_at (put16 t (at + 2) (n / 65536)) (at + 2) ≡ n / 65536 = read-put16 t (at + 2) (n / 65536) (omega arith) in
    rw (p, q) (omega arith)
