-- How many numbers have a property, as a relation: no test and no counter stands between the words and the number. And the count of the flat
-- chart that a reading gives is the number of the image's events. Assumes nothing.
use Rattle.std.specs.Prelude.{ℕ, zero, suc, ◌+◌, ◌≡◌, refl, ◌↔◌, Bool, true, false, List}
use Rattle.std.proofs.Common.{ap, arith}
use Rattle.general.specs.Cases.{cases, contra}
use Rattle.general.specs.Below.{tally}
use Rattle.records.specs.Image.{nodes}
use Rattle.nesting.specs.Nesting.{parent, is_event}
use Rattle.flattening.specs.Flattening.{flat_chart}
use Rattle.chart.specs.Reading.{reading}
use Rattle.chart.specs.ReadingGives.{is-event, event-is, granted-right}

-- n of the numbers below k have P
pub data Number (P : ℕ → Type 0) : ℕ → ℕ → Type 0 where
  start : Number P zero zero
  one : {k n : ℕ} → P k → Number P k n → Number P (suc k) (suc n)
  skip : {k n : ℕ} → (P k → ⊥) → Number P k n → Number P (suc k) n

-- it is one number
pub number-one : {P : ℕ → Type 0} {k x y : ℕ} → Number P k x → Number P k y → x ≡ y
number-one start start = refl
number-one (one p a) (one q b) = ap suc (number-one a b)
number-one (one p a) (skip n b) = absurd (n p)
number-one (skip n a) (one p b) = absurd (n p)
number-one (skip n a) (skip m b) = number-one a b

-- and it is what a test that says P counts
pub number-tally : (P : ℕ → Type 0) (f : ℕ → Bool) → ((e : ℕ) → (f e ≡ true) ↔ P e) → (k : ℕ) → Number P k (tally k f)
unfolding tally
number-tally P f t zero = start
number-tally P f t (suc k) =
    cases (f k)
    (λ e. let z : 1 + tally k f ≡ suc (tally k f) = omega arith in rw (e, z) (one ((t k).0 e) (number-tally P f t k)))
    (λ e. let z : 0 + tally k f ≡ tally k f = omega arith in rw (e, z) (skip (λ p. contra ((t k).1 p) e) (number-tally P f t k)))

-- "A node that is nobody's parent is an event."
abbrev pub Event : List ℕ → ℕ → Type 0
Event image i = (a : ℕ) → parent image a i ≡ false

pub reading-count : (image : List ℕ) → (reading image).answer.code ≡ 0 → Number (Event image) (nodes image) (reading image).chart.count
unfolding flat_chart
reading-count image z = rw (granted-right image z).1 (number-tally (Event image) (is_event image) (λ i. (is-event image i, event-is image i)) (nodes image))
