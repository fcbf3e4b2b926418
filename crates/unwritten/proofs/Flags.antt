-- The flags of the written rules, as the code sets them and passes them. Assumes nothing.
use mathlib.Core.Path.{◌≡◌, ◌∙◌}
use mathlib.Core.Bool.{true, false, not, ◌&&◌, and-false}
use mathlib.Core.List.{List}
use Prim.Native.Nat.{ℕ, ◌+◌, ◌*◌, ◌/◌, ◌%◌, ◌^◌, ◌≤◌, ◌<◌}
use native.Mathlib.Omega.{arith}
use lib.Dec.{ltb}
use lib.ListN.{get_or, set}
use borrow.Author.Tests.{lt-ltb, le-ltb, ltb-true, ltb-false}
use Rattle.paper.specs.Limits.{max_rules}
use Rattle.general.specs.Cases.{contra, cases}
use Rattle.sets.specs.Set.{has, minus, all_below, lowest}
use Rattle.sets.specs.Laws.{has_all, has-minus, has-empty, minus-le, lowest-lt, lowest-has, lowest-least}
use Rattle.book.specs.Marks.{word_bits}
use Rattle.unwritten.specs.Words.{rule_words, AllWritten, all_more, Onward}

-- ---- every rule of a book

-- a word of 64 more
pub all-word : (l : List ℕ) (w word : ℕ) → AllWritten (word_bits * w) l → w < rule_words → word ≡ all_below word_bits → AllWritten (word_bits * (w + 1)) (set l w word)
all-word l w word a h e =
    let z : word_bits * (w + 1) ≡ word_bits * w + word_bits = omega arith in
    rw (e, z) (all_more l w word_bits a h (omega arith))

-- and what is left, where the words before that are done
module _ (l : List ℕ) (w rules : ℕ) (a : AllWritten (word_bits * w) l) (h : w ≤ rules / word_bits) (i : rules / word_bits ≤ w) where
  pub all_rest : (word : ℕ) → rules / word_bits < rule_words → word ≡ all_below (rules % word_bits) → AllWritten rules (set l (rules / word_bits) word)
  all_rest word j e =
      let p : w ≡ rules / word_bits = omega arith in
      let z : word_bits * (rules / word_bits) + rules % word_bits ≡ rules = omega arith in
      rw e (rw z at (all_more l (rules / word_bits) (rules % word_bits) (rw p at a) j (omega arith)))

  pub all-even : rules ≤ max_rules → rule_words ≤ rules / word_bits → AllWritten rules l
  all-even j k = let z : word_bits * w ≡ rules = omega arith in rw z at a

-- ---- the next rule that is not written

module _ (l : List ℕ) (at all free passed left : ℕ) (ha : all ≡ all_below word_bits) (hf : free ≡ minus all (get_or l (at / word_bits) 0)) (hp : passed ≡ all_below (at % word_bits + 1))
    (hl : left ≡ minus free passed) where
  -- a bit of the word that is not left is set, if it lies above that of `at`
  written-there : (q : ℕ) → at % word_bits < q → q < word_bits → has left q ≡ false → has (get_or l (at / word_bits) 0) q ≡ true
  written-there q h k n =
      let e : has left q ≡ (has free q && not (has passed q)) = rw hl (has-minus free passed q) in
      let p : has passed q ≡ false = rw hp (has_all (at % word_bits + 1) q ∙ le-ltb q (at % word_bits + 1) (omega arith)) in
      let a : has all q ≡ true = rw ha (has_all word_bits q ∙ lt-ltb q word_bits k) in
      let f : has free q ≡ (has all q && not (has (get_or l (at / word_bits) 0) q)) = rw hf (has-minus all (get_or l (at / word_bits) 0) q) in
      cases (has (get_or l (at / word_bits) 0) q) (λ x. x) (λ x. contra (e ∙ rw (p, f, a, x)) n)

  pub onward-over : left ≡ 0 → Onward l at ((at / word_bits + 1) * word_bits)
  onward-over z =
      record {
        up = omega arith;
        between = λ p h k. let w : p / word_bits ≡ at / word_bits = omega arith in rw w (written-there (p % word_bits) (omega arith) (omega arith) (rw z (has-empty (p % word_bits))));
      }

  module _ (n : left ≡ 0 → ⊥) (low : ℕ) (ho : low ≡ lowest word_bits left) where
    small : left < 2 ^ word_bits
    small = omega (arith, minus-le free passed, minus-le all (get_or l (at / word_bits) 0))

    inside : low < word_bits
    inside = rw ho (lowest-lt word_bits left (omega arith) small)

    above : at % word_bits < low
    above =
        cases (ltb (at % word_bits) low) (ltb-true (at % word_bits) low)
        (λ x. let k : low ≤ at % word_bits = ltb-false (at % word_bits) low x in
        contra (rw (← ho) at (lowest-has word_bits left (rw (← ho) inside)))
        (rw hl (has-minus free passed low ∙ rw (hp, has_all (at % word_bits + 1) low, lt-ltb low (at % word_bits + 1) (omega arith)) (and-false (has free low)))))

    pub onward-next : Onward l at (at / word_bits * word_bits + low)
    onward-next =
        record {
          up = omega (arith, above);
          between = λ p h k. let i = inside in
              let w : p / word_bits ≡ at / word_bits = omega arith in
              let d : p % word_bits < low = omega arith in
              rw w (written-there (p % word_bits) (omega arith) (omega arith) (lowest-least word_bits left (p % word_bits) (rw (← ho) d)));
        }
