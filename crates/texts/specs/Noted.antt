-- The marks that the texts of a book name, as one set. Assumes nothing.
use Rattle.std.specs.Prelude.{◌≡◌, ◌||◌, List, ℕ, ◌+◌, ◌*◌, ◌<◌, length}
use Rattle.std.proofs.Common.{sym, ap, ◌∙◌}
use Rattle.paper.specs.Limits.{max_marks, word_size}
use Rattle.general.specs.Below.{some, some_same}
use Rattle.book.specs.Text.{elem}
use Rattle.book.specs.Book.{text_of}
use Rattle.book.specs.Image.{rules_in, conditions_in, condition_place, condition_from, start_at, count_at, book_of}
use Rattle.book.specs.Read.{words_from}
use Rattle.book.specs.Marks.{mark_words, has_mark}
use Rattle.book.specs.WellFormed.{WellFormed}
use Rattle.book.specs.WellRead.{text-is}

-- the set has the marks that the text of some condition names
pub record NamedIn (s set : List ℕ) : Type 0 where
  pub wide : length set ≡ mark_words
  pub names : (m : ℕ) → m < max_marks → has_mark set m ≡ some (conditions_in s) (λ c. elem m (text_of (book_of s) c))

-- ---- while they are read

-- the set has what it had and the marks that the words name
pub record Added (set words after : List ℕ) : Type 0 where
  pub long : length after ≡ length set
  pub names : (m : ℕ) → m < max_marks → has_mark after m ≡ (has_mark set m || elem m words)

-- the words of the condition record at the byte `at`, where the words begin at the byte `from`
abbrev pub record_words : List ℕ → ℕ → ℕ → List ℕ
record_words s from at = words_from s (from + word_size * start_at s at) (count_at s at)

-- the set has the marks that the words of the first k records name, in an image of R rules and Q conditions
pub record Named (s : List ℕ) (R Q k : ℕ) (set : List ℕ) : Type 0 where
  pub wide : length set ≡ mark_words
  pub names : (m : ℕ) → m < max_marks → has_mark set m ≡ some k (λ c. elem m (record_words s (condition_place R Q) (condition_place R c)))

-- in a well-formed image these are the texts of its book
pub named_in : (s set : List ℕ) → WellFormed s → Named s (rules_in s) (conditions_in s) (conditions_in s) set → NamedIn s set
unfolding condition_from
named_in s set w n =
    record {
      wide = n.wide;
      names = λ m h. n.names m h
          ∙ some_same (conditions_in s) (λ c. elem m (record_words s (condition_place (rules_in s) (conditions_in s)) (condition_place (rules_in s) c)))
          (λ c. elem m (text_of (book_of s) c)) (λ c l. ap (elem m) (sym (text-is s w c l)));
    }
