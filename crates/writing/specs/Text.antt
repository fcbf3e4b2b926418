-- Words and decimal numbers, byte by byte. Assumes nothing.
use Rattle.std.specs.Prelude.{ℕ, zero, suc, ◌+◌, ◌/◌, ◌%◌, cond, List, [], ◌∷◌, ◌++◌, ltb}
use Prim.Native.Char.{code}
use Prim.Native.String.{String, [] as []ˢ, ◌∷◌ as ◌∷ˢ◌}

-- the bytes of a text
abbrev pub ascii : String → List ℕ
ascii []ˢ = []
ascii (c ∷ˢ s) = code c ∷ ascii s

abbrev pub digit : ℕ → ℕ
digit d = 48 + d

-- n in decimal, the most significant digit first, in at most k digits
unfoldable pub decimal_in : ℕ → ℕ → List ℕ
decimal_in zero n = []
decimal_in (suc k) n = cond (ltb n 10) (digit n ∷ []) (decimal_in k (n / 10) ++ (digit (n % 10) ∷ []))

-- n has at most n + 1 digits
unfoldable pub decimal : ℕ → List ℕ
decimal n = decimal_in (suc n) n

-- a word, and a number behind it
abbrev pub named : String → ℕ → List ℕ
named name n = ascii name ++ decimal n
