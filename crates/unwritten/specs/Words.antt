-- Sets of numbers as words of 64 members each: one member more, one less, and the rules that such a set says are written. Assumes nothing.
use Rattle.std.specs.Prelude.{◌≡◌, ◌≢◌, Bool, true, not, ◌&&◌, List, ℕ, ◌+◌, ◌*◌, ◌/◌, ◌%◌, ◌≤◌, ◌<◌, eqb, ltb, length, get_or, set, replicate}
use Rattle.std.proofs.Common.{ap, sym, ◌∙◌, arith, length-set, get_or-set_same, get_or-set_other, eqb-true, ne_eqb, lt-ltb, le-ltb, ltb-true, ltb-false}
use Rattle.std.proofs.Math.Path.{fun_ext}
use Rattle.std.proofs.Math.Bool.{and-true, or-true, or-false}
use Rattle.std.proofs.lemmas.List.{length-replicate}
use Rattle.std.proofs.lemmas.Bool.{eqb-false}
use Rattle.paper.specs.Limits.{max_rules}
use Rattle.general.specs.Cases.{cases}
use Rattle.general.specs.Tables.{zeros-at}
use Rattle.sets.specs.Set.{has, minus, only, all_below}
use Rattle.sets.specs.Laws.{has-minus, has-only, has-empty, has_all}
pub use Rattle.book.specs.Marks.{marked, has-marked}
use Rattle.book.specs.Marks.{word_bits, has_mark, same_bit}
use Rattle.order_theory.specs.Written.{Written, none, write}

-- the words that hold a flag for each rule
abbrev pub rule_words : ℕ
rule_words = max_rules / word_bits

-- the set without t
abbrev pub unmarked : List ℕ → ℕ → List ℕ
unmarked row t = set row (t / word_bits) (minus (get_or row (t / word_bits) 0) (only (t % word_bits)))

pub has-unmarked : (row : List ℕ) (t m : ℕ) → t / word_bits < length row → has_mark (unmarked row t) m ≡ (has_mark row m && not (eqb m t))
has-unmarked row t m h =
    cases (eqb (m / word_bits) (t / word_bits))
    (λ e. let p : m / word_bits ≡ t / word_bits = eqb-true (m / word_bits) (t / word_bits) e in
    rw (
      p,
      get_or-set_same row (t / word_bits) (minus (get_or row (t / word_bits) 0) (only (t % word_bits))) 0 h,
      has-minus (get_or row (t / word_bits) 0) (only (t % word_bits)) (m % word_bits),
      has-only (t % word_bits) (m % word_bits),
    )
    (ap (λ (b : Bool). has (get_or row (t / word_bits) 0) (m % word_bits) && not b) (same_bit t m p)))
    (λ e. let n : m / word_bits ≢ t / word_bits = eqb-false (m / word_bits) (t / word_bits) e in
    rw (get_or-set_other row (t / word_bits) (m / word_bits) (minus (get_or row (t / word_bits) 0) (only (t % word_bits))) 0 n, ne_eqb m t (λ q. n (ap (λ (x : ℕ). x / word_bits) q)))
    (sym (and-true (has_mark row m))))

-- ---- which rules the flags say are written

abbrev pub flagged : List ℕ → Written
flagged l q = has (get_or l (q / word_bits) 0) (q % word_bits)

pub flagged-set : (l : List ℕ) (r : ℕ) → r / word_bits < length l → flagged (marked l r) ≡ write (flagged l) r
flagged-set l r h = fun_ext (λ q. has-marked l r q h ∙ cases (eqb q r) (λ e. rw e (or-true (flagged l q))) (λ e. rw e (or-false (flagged l q))))

pub flagged-none : (n : ℕ) → flagged (replicate n 0) ≡ none
flagged-none n = fun_ext (λ q. rw (zeros-at n (q / word_bits)) (has-empty (q % word_bits)))

-- the first n rules are written, and no other
pub record AllWritten (n : ℕ) (l : List ℕ) : Type 0 where
  pub size : length l ≡ rule_words
  pub flags : (q : ℕ) → flagged l q ≡ ltb q n

pub all_none : AllWritten 0 (replicate rule_words 0)
all_none =
    record { size = length-replicate {A = ℕ} rule_words 0; flags = λ q. ap (λ (d : Written). d q) (flagged-none rule_words) ∙ sym (le-ltb q 0 (omega arith)) }

-- n more, in the word behind those
pub all_more : (l : List ℕ) (w n : ℕ) → AllWritten (word_bits * w) l → w < rule_words → n ≤ word_bits → AllWritten (word_bits * w + n) (set l w (all_below n))
all_more l w n a h i =
    let z = a.size in
    record {
      size = length-set l w (all_below n) ∙ a.size;
      flags = λ q. cases (eqb (q / word_bits) w)
          (λ e. let p : q / word_bits ≡ w = eqb-true (q / word_bits) w e in
          rw (p, get_or-set_same l w (all_below n) 0 (omega arith), has_all n (q % word_bits))
          (cases (ltb q (word_bits * w + n))
          (λ x. rw x (lt-ltb (q % word_bits) n (omega (arith, ltb-true q (word_bits * w + n) x))))
          (λ x. rw x (le-ltb (q % word_bits) n (omega (arith, ltb-false q (word_bits * w + n) x))))))
          (λ e. let o : q / word_bits ≢ w = eqb-false (q / word_bits) w e in
          rw (get_or-set_other l w (q / word_bits) (all_below n) 0 o)
          (a.flags q ∙ cases (ltb q (word_bits * w))
          (λ x. rw (x, lt-ltb q (word_bits * w + n) (omega (arith, ltb-true q (word_bits * w) x))))
          (λ x. rw (x, le-ltb q (word_bits * w + n) (omega (arith, ltb-false q (word_bits * w) x))))));
    }

-- the rule `to` may be asked after `at`: those between are written
pub record Onward (l : List ℕ) (at to : ℕ) : Type 0 where
  pub up : at < to
  pub between : (p : ℕ) → at < p → p < to → flagged l p ≡ true
