-- A set of marks as words of 64 members each. Assumes nothing.
use Rattle.std.specs.Prelude.{◌≡◌, ◌≢◌, Bool, ◌||◌, List, ℕ, ◌/◌, ◌%◌, ◌<◌, length, get_or, set, eqb}
use Rattle.std.proofs.Common.{sym, ap, arith, get_or-set_same, get_or-set_other, eqb-true, eq-eqb, ne_eqb}
use Rattle.std.proofs.Math.Bool.{or-false}
use Rattle.std.proofs.lemmas.Bool.{eqb-false}
use Rattle.paper.specs.Limits.{max_marks}
use Rattle.general.specs.Cases.{cases}
use Rattle.sets.specs.Set.{has, union, only}
use Rattle.sets.specs.Laws.{has-union, has-only}

abbrev pub word_bits : ℕ
word_bits = 64

abbrev pub mark_words : ℕ
mark_words = max_marks / word_bits

-- whether m is a member of a row of words
abbrev pub has_mark : List ℕ → ℕ → Bool
has_mark row m = has (get_or row (m / word_bits) 0) (m % word_bits)

-- the set with t
abbrev pub marked : List ℕ → ℕ → List ℕ
marked row t = set row (t / word_bits) (union (get_or row (t / word_bits) 0) (only (t % word_bits)))

-- in one word, the members differ as the numbers do
pub same_bit : (t m : ℕ) → m / word_bits ≡ t / word_bits → eqb (t % word_bits) (m % word_bits) ≡ eqb m t
same_bit t m p =
    cases (eqb m t) (λ e. let q : m ≡ t = eqb-true m t e in rw e (eq-eqb (t % word_bits) (m % word_bits) (rw q)))
    (λ e. rw e (ne_eqb (t % word_bits) (m % word_bits) (λ q. eqb-false m t e (omega arith))))

pub has-marked : (row : List ℕ) (t m : ℕ) → t / word_bits < length row → has_mark (marked row t) m ≡ (has_mark row m || eqb m t)
has-marked row t m h =
    cases (eqb (m / word_bits) (t / word_bits))
    (λ e. let p : m / word_bits ≡ t / word_bits = eqb-true (m / word_bits) (t / word_bits) e in
    rw (
      p,
      get_or-set_same row (t / word_bits) (union (get_or row (t / word_bits) 0) (only (t % word_bits))) 0 h,
      has-union (get_or row (t / word_bits) 0) (only (t % word_bits)) (m % word_bits),
      has-only (t % word_bits) (m % word_bits),
    )
    (ap (λ (b : Bool). has (get_or row (t / word_bits) 0) (m % word_bits) || b) (same_bit t m p)))
    (λ e. let n : m / word_bits ≢ t / word_bits = eqb-false (m / word_bits) (t / word_bits) e in
    rw (get_or-set_other row (t / word_bits) (m / word_bits) (union (get_or row (t / word_bits) 0) (only (t % word_bits))) 0 n, ne_eqb m t (λ q. n (ap (λ (x : ℕ). x / word_bits) q)))
    (sym (or-false (has_mark row m))))
