-- Two sets of marks for the test whether a loop is possible: those drawn, and those that a trigger waits for. Assumes nothing.
use Rattle.std.specs.Prelude.{◌≡◌, Bool, ◌&&◌, ◌||◌, List, ℕ, ◌<◌, length, get_or}
use Rattle.paper.specs.Limits.{max_marks}
use Rattle.general.specs.Below.{some}
use Rattle.sets.specs.Set.{has}
use Rattle.book.specs.Image.{book_of}
use Rattle.book.specs.Marks.{word_bits, mark_words, has_mark}
use Rattle.loop_chances.specs.Chances.{draws, awaited}

-- a set takes in the marks that pass a test
pub record Taken (set : List ℕ) (p : ℕ → Bool) (after : List ℕ) : Type 0 where
  pub long : length after ≡ length set
  pub takes : (m : ℕ) → m < max_marks → has_mark after m ≡ (has_mark set m || p m)

-- the sets of the first r rules
pub record Sorted (s : List ℕ) (r : ℕ) (a b : List ℕ) : Type 0 where
  pub long : length a ≡ mark_words
  pub wide : length b ≡ mark_words
  pub drawn : (m : ℕ) → m < max_marks → has_mark a m ≡ some r (draws (book_of s) m)
  pub waited : (m : ℕ) → m < max_marks → has_mark b m ≡ some r (awaited (book_of s) m)

-- a word of one set has a member of the same word of two others
unfoldable pub meet_word : ℕ → ℕ → ℕ → Bool
meet_word a b c = some word_bits (λ e. (has b e || has c e) && has a e)

-- some word has
unfoldable pub meeting : List ℕ → List ℕ → List ℕ → Bool
meeting drawn waited named = some mark_words (λ k. meet_word (get_or drawn k 0) (get_or waited k 0) (get_or named k 0))
