-- What every call gives back: code, place and other. Assumes nothing.
use Rattle.std.specs.Prelude.{ℕ, cond, ltb}
use Rattle.paper.specs.declared.Answer.{Answer}

abbrev pub answer : ℕ → ℕ → ℕ → Answer
answer code place other = record { code = code; place = place; other = other }

-- 0 is granted
abbrev pub granted : Answer
granted = answer 0 0 0

-- a refusal that names no place
abbrev pub refusal : ℕ → Answer
refusal code = answer code 0 0

-- a place is a number of 32 bits: what lies past them is named by the highest
abbrev pub last_place : ℕ
last_place = 4294967295

unfoldable pub place_of : ℕ → ℕ
place_of k = cond (ltb k last_place) k last_place
