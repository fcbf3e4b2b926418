-- What the loop that sorts the marks into drawn and awaited keeps, rule by rule, and when the sets meet. Assumes nothing.
use mathlib.Core.Path.{◌≡◌, refl, sym, ap, ◌∙◌}
use mathlib.Core.Bool.{Bool, true, false, not, ◌&&◌, ◌||◌, or-false}
use mathlib.Core.List.{List, [], ◌∷◌}
use Prim.Native.Nat.{ℕ, ◌+◌, ◌*◌, ◌/◌, ◌%◌, ◌^◌, ◌≤◌, ◌<◌}
use native.Mathlib.Omega.{arith}
use lib.Dec.{eqb, leb, ltb}
use lib.ListN.{length, get_or, replicate, length-replicate}
use borrow.Author.Tests.{eqb-true, eqb-false, eq-eqb, ne_eqb, le-leb, lt-leb, ltb-true, ltb-false}
use Rattle.paper.specs.Limits.{max_marks}
use Rattle.general.specs.Cases.{contra, cases, both, same_test}
use Rattle.general.specs.Below.{some, some_of, some_at, some-none, some-step, some_same, find}
use Rattle.general.specs.Tables.{length-tabulate, zeros-at}
use Rattle.sets.specs.Set.{has, union, inter}
use Rattle.sets.specs.Laws.{has-union, has-inter, has-empty, none-zero, above}
use Rattle.book.specs.Text.{elem}
use Rattle.book.specs.Firing.{awaits}
use Rattle.book.specs.Image.{rules_in, conditions_in, rule_place, trigger_from, rule_from, book_of, kind_at, sense_at, number_at, condition_at, target_at}
use Rattle.book.specs.Read.{rules-count, rule-read}
use Rattle.book.specs.Marks.{word_bits, mark_words, has_mark}
use Rattle.book.specs.WellFormed.{WellFormed}
use Rattle.texts.specs.Noted.{NamedIn, Added}
use Rattle.loop_chances.specs.Chances.{waits, draws, drawn, awaited, told, named, may_loop}
use Rattle.loop_chances.specs.Sorts.{Taken, Sorted, meet_word, meeting}
use Rattle.loop_search.proofs.Reading.{asks-byte}

eqb-turned : (a b : ℕ) → eqb a b ≡ eqb b a
eqb-turned a b = same_test (eqb a b) (eqb b a) (λ e. eq-eqb b a (sym (eqb-true a b e))) (λ e. eq-eqb a b (sym (eqb-true b a e)))

-- ---- one rule

-- what the book says of the rule, by its bytes
waits-byte : (k n : ℕ) → waits (trigger_from k n) ≡ leb 2 k
unfolding trigger_from waits
waits-byte k n =
    cases (eqb k 0) (λ e. rw (e, lt-leb 2 k (omega (arith, eqb-true k 0 e))))
    (λ e. cases (eqb k 1) (λ f. rw (e, f, lt-leb 2 k (omega (arith, eqb-true k 1 f))))
    (λ f. rw (e, f, le-leb 2 k (omega (arith, eqb-false k 0 e, eqb-false k 1 f))) (cases (eqb k 2) (λ g. rw g) (λ g. rw g))))

awaits-byte : (k n m : ℕ) → awaits (trigger_from k n) m ≡ (leb 2 k && eqb n m)
unfolding trigger_from awaits
awaits-byte k n m =
    cases (eqb k 0) (λ e. rw (e, lt-leb 2 k (omega (arith, eqb-true k 0 e))))
    (λ e. cases (eqb k 1) (λ f. rw (e, f, lt-leb 2 k (omega (arith, eqb-true k 1 f))))
    (λ f. rw (e, f, le-leb 2 k (omega (arith, eqb-false k 0 e, eqb-false k 1 f)), eqb-turned n m) (cases (eqb k 2) (λ g. rw g) (λ g. rw g))))

module _ (s : List ℕ) (r : ℕ) (h : r < rules_in s) (m : ℕ) where
  draws-byte : draws (book_of s) m r ≡ ((leb 2 (kind_at s (rule_place r)) || leb 1 (sense_at s (rule_place r))) && eqb (target_at s (rule_place r)) m)
  unfolding rule_from
  draws-byte = rw (rule-read s r h, waits-byte (kind_at s (rule_place r)) (number_at s (rule_place r)), asks-byte (sense_at s (rule_place r)) (condition_at s (rule_place r)))

  awaited-byte : awaited (book_of s) m r ≡ (leb 2 (kind_at s (rule_place r)) && eqb (number_at s (rule_place r)) m)
  unfolding rule_from
  awaited-byte = rw (rule-read s r h, awaits-byte (kind_at s (rule_place r)) (number_at s (rule_place r)) m)

module _ (s set : List ℕ) (r : ℕ) (h : r < rules_in s) where
  pub target-drawn : (t : ℕ) (after : List ℕ) → (leb 2 (kind_at s (rule_place r)) || leb 1 (sense_at s (rule_place r))) ≡ true → t ≡ target_at s (rule_place r) → Added set (t ∷ []) after
      → Taken set (λ m. draws (book_of s) m r) after
  unfolding elem
  target-drawn t after c e a =
      record { long = a.long; takes = λ m i. a.names m i ∙ rw (draws-byte s r h m, c, e, or-false (eqb m (target_at s (rule_place r))), eqb-turned m (target_at s (rule_place r))) }

  pub target_left : (leb 2 (kind_at s (rule_place r)) || leb 1 (sense_at s (rule_place r))) ≡ false → Taken set (λ m. draws (book_of s) m r) set
  target_left c = record { long = refl; takes = λ m i. rw (draws-byte s r h m, c) (sym (or-false (has_mark set m))) }

  pub mark-awaited : (n t : ℕ) (after : List ℕ) → 2 ≤ n → n ≤ kind_at s (rule_place r) → t ≡ number_at s (rule_place r) → Added set (t ∷ []) after → Taken set (λ m. awaited (book_of s) m r) after
  unfolding elem
  mark-awaited n t after j k e a =
      record {
        long = a.long;
        takes = λ m i. a.names m i
            ∙ rw (awaited-byte s r h m, le-leb 2 (kind_at s (rule_place r)) (omega arith), e, or-false (eqb m (number_at s (rule_place r))), eqb-turned m (number_at s (rule_place r)));
      }

  pub none-awaited : kind_at s (rule_place r) < 2 → Taken set (λ m. awaited (book_of s) m r) set
  none-awaited k = record { long = refl; takes = λ m i. rw (awaited-byte s r h m, lt-leb 2 (kind_at s (rule_place r)) k) (sym (or-false (has_mark set m))) }

-- ---- the loop over the rules

pub record Sorting (s : List ℕ) (n : ℕ) (drawn waited : List ℕ) (r : ℕ) : Type 0 where
  pub formed : WellFormed s
  pub many : n ≡ rules_in s
  pub within : r ≤ rules_in s
  pub sorted : Sorted s r drawn waited

empty-has : (m : ℕ) → has_mark (replicate mark_words 0) m ≡ false
empty-has m = rw (zeros-at mark_words (m / word_bits)) (has-empty (m % word_bits))

pub sorting-first : (s : List ℕ) (n : ℕ) (drawn waited : List ℕ) → WellFormed s → n ≡ rules_in s → drawn ≡ replicate mark_words 0 → waited ≡ replicate mark_words 0 → Sorting s n drawn waited 0
unfolding some
sorting-first s n drawn waited w e y z = record {
  formed = w;
  many = e;
  within = omega arith;
  sorted = record {
    long = rw y (length-replicate {A = ℕ} mark_words 0);
    wide = rw z (length-replicate {A = ℕ} mark_words 0);
    drawn = λ m i. rw y (empty-has m);
    waited = λ m i. rw z (empty-has m);
  };
}

pub sorting-more : (s : List ℕ) (n : ℕ) (drawn waited : List ℕ) (r : ℕ) → Sorting s n drawn waited r → r < n → (next last : List ℕ) → Taken drawn (λ m. draws (book_of s) m r) next
    → Taken waited (λ m. awaited (book_of s) m r) last → Sorting s n next last (r + 1)
sorting-more s n drawn waited r g l next last a b =
    let y = g.many in
    record {
      formed = g.formed;
      many = y;
      within = omega arith;
      sorted = record {
        long = a.long ∙ g.sorted.long;
        wide = b.long ∙ g.sorted.wide;
        drawn = λ m i. a.takes m i ∙ rw (some-step r (draws (book_of s) m)) (ap (λ (x : Bool). x || draws (book_of s) m r) (g.sorted.drawn m i));
        waited = λ m i. b.takes m i ∙ rw (some-step r (awaited (book_of s) m)) (ap (λ (x : Bool). x || awaited (book_of s) m r) (g.sorted.waited m i));
      };
    }

pub sorting-last : (s : List ℕ) (n : ℕ) (drawn waited : List ℕ) (r : ℕ) → Sorting s n drawn waited r → n ≤ r → Sorted s (rules_in s) drawn waited
sorting-last s n drawn waited r g l = let i = g.within in let m = g.many in let z : r ≡ rules_in s = omega arith in rw (← z) g.sorted

-- ---- whether the sets meet

pub meet-word : (a b c : ℕ) → a < 2 ^ word_bits → not (eqb (inter a (union b c)) 0) ≡ meet_word a b c
unfolding meet_word
meet-word a b c h =
    find word_bits (λ e. (has b e || has c e) && has a e)
    (λ e l x. rw (some_of word_bits (λ e. (has b e || has c e) && has a e) e l x)
    (ap not (ne_eqb (inter a (union b c)) 0 (λ z. let (p, q) = both (has b e || has c e) (has a e) x in
    contra (has-inter a (union b c) e ∙ rw (q, has-union b c e) p) (rw z (has-empty e))))))
    (λ n. rw (some-none word_bits (λ e. (has b e || has c e) && has a e) n)
    (ap not (eq-eqb (inter a (union b c)) 0 (none-zero (inter a (union b c)) (λ e. has-inter a (union b c) e ∙ rw (has-union b c e)
    (turned (has a e) (has b e || has c e) ∙ cases (ltb e word_bits) (λ t. n e (ltb-true e word_bits t))
    (λ t. rw (above word_bits a e h (ltb-false e word_bits t)) (turned (has b e || has c e) false))))))))
  where
    turned : (x y : Bool) → (x && y) ≡ (y && x)
    turned true true = refl
    turned true false = refl
    turned false true = refl
    turned false false = refl

-- the words before k do not
pub record Apart (drawn waited named : List ℕ) (k : ℕ) : Type 0 where
  pub none : (j : ℕ) → j < k → meet_word (get_or drawn j 0) (get_or waited j 0) (get_or named j 0) ≡ false

module _ (drawn waited named : List ℕ) where
  module _ (k : ℕ) (g : Apart drawn waited named k) (b : Bool) (e : b ≡ meet_word (get_or drawn k 0) (get_or waited k 0) (get_or named k 0)) where
    pub apart-not : k < mark_words → b ≡ true → true ≡ meeting drawn waited named
    unfolding meeting
    apart-not l t = sym (some_of mark_words (λ k. meet_word (get_or drawn k 0) (get_or waited k 0) (get_or named k 0)) k l (sym e ∙ t))

    pub apart_more : b ≡ false → Apart drawn waited named (k + 1)
    apart_more t = record { none = λ j l. cases (eqb j k) (λ x. rw (eqb-true j k x) (sym e ∙ t)) (λ x. g.none j (let n = eqb-false j k x in omega arith)) }

  pub apart-last : (k : ℕ) → Apart drawn waited named k → mark_words ≤ k → false ≡ meeting drawn waited named
  unfolding meeting
  apart-last k g l = sym (some-none mark_words (λ k. meet_word (get_or drawn k 0) (get_or waited k 0) (get_or named k 0)) (λ j i. g.none j (omega arith)))

  -- word by word is mark by mark
  meeting-is : meeting drawn waited named ≡ some max_marks (λ m. (has_mark waited m || has_mark named m) && has_mark drawn m)
  unfolding meeting meet_word
  meeting-is =
      same_test (some mark_words words) (some max_marks marks)
      (λ x.
      let (k, h, y) = some_at mark_words words x in
      let (e, i, z) = some_at word_bits (λ e. (has (get_or waited k 0) e || has (get_or named k 0) e) && has (get_or drawn k 0) e) y in
      let p : (word_bits * k + e) / word_bits ≡ k = omega arith in
      let q : (word_bits * k + e) % word_bits ≡ e = omega arith in
      some_of max_marks marks (word_bits * k + e) (omega arith) (rw (p, q) z))
      (λ x.
      let (m, h, y) = some_at max_marks marks x in
      let k : ℕ = m / word_bits in
      some_of mark_words words k (omega arith)
      (some_of word_bits (λ e. (has (get_or waited k 0) e || has (get_or named k 0) e) && has (get_or drawn k 0) e) (m % word_bits) (omega arith) y))
    where
      words : ℕ → Bool
      words k = some word_bits (λ e. (has (get_or waited k 0) e || has (get_or named k 0) e) && has (get_or drawn k 0) e)

      marks : ℕ → Bool
      marks m = (has_mark waited m || has_mark named m) && has_mark drawn m

conditions-count : (s : List ℕ) → length (book_of s).conditions ≡ conditions_in s
unfolding book_of
conditions-count s = length-tabulate (conditions_in s) _

pub sorts-say : (s drawn waited set : List ℕ) (x : Bool) → Sorted s (rules_in s) drawn waited → NamedIn s set → x ≡ meeting drawn waited set → x ≡ may_loop (book_of s)
unfolding may_loop drawn named
sorts-say s drawn waited set x g n e =
    e ∙ meeting-is drawn waited set ∙ rw (rules-count s, conditions-count s)
    (some_same max_marks (λ m. (has_mark waited m || has_mark set m) && has_mark drawn m)
    (λ m. (some (rules_in s) (awaited (book_of s) m) || some (conditions_in s) (told (book_of s) m)) && some (rules_in s) (draws (book_of s) m))
    (λ m i. rw (g.waited m i, n.names m i, g.drawn m i)))
