-- Little-endian numbers in lists of bytes: read, written in place, and as bytes of their own. Assumes nothing.
use Rattle.std.specs.Prelude.{ℕ, ◌+◌, ◌*◌, ◌/◌, ◌%◌, List, [], ◌∷◌, ◌++◌, get_or, set}

unfoldable pub u16_at : List ℕ → ℕ → ℕ
u16_at s at = get_or s at 0 + 256 * get_or s (at + 1) 0

unfoldable pub u32_at : List ℕ → ℕ → ℕ
u32_at s at = u16_at s at + 65536 * u16_at s (at + 2)

unfoldable pub put16 : List ℕ → ℕ → ℕ → List ℕ
put16 s at n = set (set s at (n % 256)) (at + 1) (n / 256)

unfoldable pub put32 : List ℕ → ℕ → ℕ → List ℕ
put32 s at n = put16 (put16 s at (n % 65536)) (at + 2) (n / 65536)

unfoldable pub bytes16 : ℕ → List ℕ
bytes16 n = n % 256 ∷ (n / 256 ∷ [])

unfoldable pub bytes32 : ℕ → List ℕ
bytes32 n = bytes16 (n % 65536) ++ bytes16 (n / 65536)
