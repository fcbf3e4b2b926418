-- What a search upwards hands back, the lowest number below n that passes or none, and what that says of the first. Assumes nothing.
use Rattle.std.specs.Prelude.{ℕ, ◌≤◌, ◌<◌, ◌≡◌, Bool, true, false, Option, Some, None, ltb}
use Rattle.std.specs.Option.{MatchOption}
use Rattle.std.proofs.Common.{arith, lt-ltb, le-ltb, ltb-true, ltb-false}
use Rattle.general.specs.Cases.{cases}
use Rattle.general.specs.Below.{first, found, first_found, first-none}

-- what `find` over a range from 0 says of its result
pub found-is : (n : ℕ) (f : ℕ → Bool) (r : Option ℕ)
    → MatchOption r ((k : ℕ) → 0 ≤ k → k < n → f k ≡ false) (λ i. (0 ≤ i) × (i < n) × (f i ≡ true) × ((k : ℕ) → 0 ≤ k → k < i → f k ≡ false))
    → r ≡ found n (first n f)
found-is n f (Some i) t = rw (← first_found n f i t.1 (λ k l. t.3 k (omega arith) l) t.2, lt-ltb i n t.1)
found-is n f None t = rw (← first-none n f (λ k l. t k (omega arith) l), le-ltb n n (omega arith))

pub found-some : (n m : ℕ) {r : ℕ} → Some r ≡ found n m → (r ≡ m) × (r < n)
found-some n m {r} e =
    cases (ltb m n)
    (λ t. let q : r ≡ m = let z = rw t at e in cc in let l = ltb-true m n t in (q, omega arith))
    (λ t. absurd (let z = rw t at e in cc))

pub found-none : (n m : ℕ) → None ≡ found n m → n ≤ m
found-none n m e = cases (ltb m n) (λ t. absurd (let z = rw t at e in cc)) (λ t. ltb-false m n t)

pub found-gone : (n m : ℕ) → n ≡ m → None ≡ found n m
found-gone n m e = rw (← e, le-ltb n n (omega arith))
