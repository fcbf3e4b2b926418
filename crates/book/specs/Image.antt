-- The book image, field by field, and the book that it says. Assumes nothing.
use Rattle.std.specs.Prelude.{ℕ, ◌+◌, ◌*◌, cond, List, get_or, eqb}
use Rattle.paper.specs.Limits.{book_header, rule_size, condition_size, word_size}
use Rattle.general.specs.Tables.{tabulate}
use Rattle.wire.specs.Wire.{u16_at, u32_at}
use Rattle.book.specs.Book.{Book, Condition}
use Rattle.book.specs.declared.Rule.{Rule}
use Rattle.book.specs.declared.Trigger.{Trigger}
use Rattle.book.specs.declared.Trigger.TheVariants.{None, Completed, BecomeYes, BecomeNo}
use Rattle.book.specs.declared.Sense.{Sense}
use Rattle.book.specs.declared.Sense.TheVariants.{NoCondition, AsWritten, Negated}

-- ---- "Header, eight 32-bit numbers"

abbrev pub stages_in : List ℕ → ℕ
stages_in s = u32_at s 0

abbrev pub marks_in : List ℕ → ℕ
marks_in s = u32_at s 4

abbrev pub rules_in : List ℕ → ℕ
rules_in s = u32_at s 8

abbrev pub conditions_in : List ℕ → ℕ
conditions_in s = u32_at s 12

abbrev pub words_in : List ℕ → ℕ
words_in s = u32_at s 16

abbrev pub rules_offset : List ℕ → ℕ
rules_offset s = u32_at s 20

abbrev pub conditions_offset : List ℕ → ℕ
conditions_offset s = u32_at s 24

abbrev pub words_offset : List ℕ → ℕ
words_offset s = u32_at s 28

-- ---- where the records lie

abbrev pub rule_place : ℕ → ℕ
rule_place r = book_header + rule_size * r

-- R rules stand before
abbrev pub condition_place : ℕ → ℕ → ℕ
condition_place R c = rule_place R + condition_size * c

-- R rules and Q conditions stand before
abbrev pub word_place : ℕ → ℕ → ℕ → ℕ
word_place R Q w = condition_place R Q + word_size * w

-- ---- a rule record at the byte `at`: "trigger kind, sense, effect, a zero byte, trigger number, condition number, target mark"

abbrev pub kind_at : List ℕ → ℕ → ℕ
kind_at s at = get_or s at 0

abbrev pub sense_at : List ℕ → ℕ → ℕ
sense_at s at = get_or s (at + 1) 0

abbrev pub effect_at : List ℕ → ℕ → ℕ
effect_at s at = get_or s (at + 2) 0

abbrev pub spare_at : List ℕ → ℕ → ℕ
spare_at s at = get_or s (at + 3) 0

abbrev pub number_at : List ℕ → ℕ → ℕ
number_at s at = u16_at s (at + 4)

abbrev pub condition_at : List ℕ → ℕ → ℕ
condition_at s at = u16_at s (at + 6)

abbrev pub target_at : List ℕ → ℕ → ℕ
target_at s at = u16_at s (at + 8)

unfoldable pub trigger_from : ℕ → ℕ → Trigger
trigger_from kind n = cond (eqb kind 0) None (cond (eqb kind 1) (Completed n) (cond (eqb kind 2) (BecomeYes n) (BecomeNo n)))

unfoldable pub sense_from : ℕ → ℕ → Sense
sense_from sense c = cond (eqb sense 0) NoCondition (cond (eqb sense 1) (AsWritten c) (Negated c))

unfoldable pub rule_from : List ℕ → ℕ → Rule
rule_from s at =
    record {
      trigger = trigger_from (kind_at s at) (number_at s at);
      sense = sense_from (sense_at s at) (condition_at s at);
      effect = eqb (effect_at s at) 1;
      target = target_at s at;
    }

-- ---- a condition record at the byte `at`: its first word, and how many

abbrev pub start_at : List ℕ → ℕ → ℕ
start_at s at = u32_at s at

abbrev pub count_at : List ℕ → ℕ → ℕ
count_at s at = u32_at s (at + 4)

unfoldable pub condition_from : List ℕ → ℕ → Condition
condition_from s at = record { start = start_at s at; count = count_at s at }

-- ---- the book

unfoldable pub book_of : List ℕ → Book
book_of s =
    record {
      stages = stages_in s;
      marks = marks_in s;
      rules = tabulate (rules_in s) (λ r. rule_from s (rule_place r));
      conditions = tabulate (conditions_in s) (λ c. condition_from s (condition_place (rules_in s) c));
      words = tabulate (words_in s) (λ w. u16_at s (word_place (rules_in s) (conditions_in s) w));
    }
