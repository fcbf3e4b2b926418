-- A well-formed image gives its book's text, line by line, and what is left behind when the lines are written. Assumes nothing.
use Prim.Native.Nat.{ℕ, ◌≤◌}
use mathlib.Core.Path.{◌≡◌, refl, ap, ap₂, ◌∙◌}
use mathlib.Core.List.{List, ◌++◌}
use native.Mathlib.Omega.{arith}
use lib.ListN.{length}
use Rattle.general.specs.Tables.{length-tabulate}
use Rattle.book.specs.Book.{rule_of, text_of}
use Rattle.book.specs.Image.{stages_in, marks_in, rules_in, conditions_in, words_in, rule_place, word_place, condition_from, book_of}
use Rattle.book.specs.Judging.{counts_of}
use Rattle.general.specs.Lists.{flat, flat-same}
use Rattle.book.specs.Read.{rule-read, text-read}
use Rattle.book.specs.WellFormed.{WellFormed}
use Rattle.book.specs.declared.Counts.{Counts}
use Rattle.general.specs.Writing.{Wrote}
use Rattle.writing.specs.Writers.{Space, fits₁, fits₂, last₃, wrote₃}
use Rattle.single_lines.specs.Text.{counts_line}
use Rattle.rule_lines.specs.Text.{rule_line}
use Rattle.rule_lines.specs.Writers.{rule_line_at}
use Rattle.condition_lines.specs.Text.{condition_line}
use Rattle.condition_lines.specs.Writers.{condition_line_at, ConditionsIn}
use Rattle.listing.specs.Text.{book_text}

module _ (s : List ℕ) (well : WellFormed s) where
  whole : length s ≡ word_place (rules_in s) (conditions_in s) (words_in s)
  whole = well.headed.laid_out.whole

  pub rules-in : rule_place (rules_in s) ≤ length s
  rules-in = rw whole (omega arith)

  pub conditions-in : ConditionsIn s (rules_in s) (conditions_in s)
  unfolding condition_from
  conditions-in =
      record {
        long = rw whole (omega arith);
        inside = λ c h. let i = (well.conditions c h).inside in rw whole (omega arith);
      }

  rule-count : length (book_of s).rules ≡ rules_in s
  unfolding book_of
  rule-count = length-tabulate (rules_in s) _

  condition-count : length (book_of s).conditions ≡ conditions_in s
  unfolding book_of
  condition-count = length-tabulate (conditions_in s) _

  word_count : length (book_of s).words ≡ words_in s
  unfolding book_of
  word_count = length-tabulate (words_in s) _

  stage-count : (book_of s).stages ≡ stages_in s
  unfolding book_of
  stage-count = refl

  mark-count : (book_of s).marks ≡ marks_in s
  unfolding book_of
  mark-count = refl

  -- the book's text, line by line
  pub image-lines : book_text (book_of s)
      ≡ counts_line (stages_in s) (marks_in s) (rules_in s) (conditions_in s) (words_in s)
      ++ (flat (rules_in s) (rule_line_at s) ++ flat (conditions_in s) (condition_line_at s (rules_in s) (conditions_in s)))
  unfolding book_text rule_line_at condition_line_at condition_from
  image-lines = ap₂ (λ (k l : List ℕ). k ++ l) first-line (ap₂ (λ (k l : List ℕ). k ++ l) rule-lines condition-lines)
    where
      first-line : counts_line (book_of s).stages (book_of s).marks (length (book_of s).rules) (length (book_of s).conditions) (length (book_of s).words)
          ≡ counts_line (stages_in s) (marks_in s) (rules_in s) (conditions_in s) (words_in s)
      first-line = rw (rule-count, condition-count, word_count, stage-count, mark-count)

      rule-lines : flat (length (book_of s).rules) (λ i. rule_line i (rule_of (book_of s) i)) ≡ flat (rules_in s) (rule_line_at s)
      rule-lines =
          ap (λ (k : ℕ). flat k (λ i. rule_line i (rule_of (book_of s) i))) rule-count
          ∙ flat-same (rules_in s) (λ i. rule_line i (rule_of (book_of s) i)) (rule_line_at s) (λ i h. ap (rule_line i) (rule-read s i h))

      condition-lines : flat (length (book_of s).conditions) (λ c. condition_line c (text_of (book_of s) c)) ≡ flat (conditions_in s) (condition_line_at s (rules_in s) (conditions_in s))
      condition-lines =
          ap (λ (k : ℕ). flat k (λ c. condition_line c (text_of (book_of s) c))) condition-count
          ∙ flat-same (conditions_in s) (λ c. condition_line c (text_of (book_of s) c)) (condition_line_at s (rules_in s) (conditions_in s))
          (λ c h. ap (condition_line c) (text-read s c h (well.conditions c h).inside))

-- ---- the writing of them

module _ (s : List ℕ) (well : WellFormed s) (room : List ℕ) (h : Counts) (e : h ≡ counts_of s) where
  abbrev first-line : List ℕ
  first-line = counts_line h.stages h.marks h.rules h.conditions h.words

  abbrev rule-lines : List ℕ
  rule-lines = flat h.rules (rule_line_at s)

  abbrev condition-lines : List ℕ
  condition-lines = flat h.conditions (condition_line_at s h.rules h.conditions)

  lines_are : book_text (book_of s) ≡ first-line ++ (rule-lines ++ condition-lines)
  lines_are = rw e (image-lines s well)

  module _ (f : Space room 0 (book_text (book_of s))) where
    whole-fits : Space room 0 (first-line ++ (rule-lines ++ condition-lines))
    whole-fits = rw lines_are at f

    pub book-fits-1 : Space room 0 first-line
    book-fits-1 = fits₁ (rule-lines ++ condition-lines) whole-fits

    module _ (p₁ : ℕ) (r₁ : List ℕ) (w₁ : Wrote room 0 first-line p₁ r₁) where
      pub book-fits-2 : (rule_place h.rules ≤ length s) × Space r₁ p₁ rule-lines
      book-fits-2 = (rw e (rules-in s well), fits₂ w₁ rule-lines condition-lines whole-fits)

      module _ (p₂ : ℕ) (r₂ : List ℕ) (w₂ : Wrote r₁ p₁ rule-lines p₂ r₂) where
        pub book-fits-3 : ConditionsIn s h.rules h.conditions × Space r₂ p₂ condition-lines
        book-fits-3 = (rw e (conditions-in s well), last₃ w₂ w₁ condition-lines whole-fits)

        pub book-wrote : (p₃ : ℕ) (r₃ : List ℕ) → Wrote r₂ p₂ condition-lines p₃ r₃ → Wrote room 0 (book_text (book_of s)) p₃ r₃
        book-wrote p₃ r₃ w₃ = rw lines_are (wrote₃ w₃ w₂ w₁)
