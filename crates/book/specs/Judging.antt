-- The tests for 20 to 24, in the paper's order, and the answer that they give. Assumes nothing.
use Rattle.std.specs.Prelude.{Bool, false, not, cond, ◌&&◌, List, ℕ, ◌+◌, ◌*◌, length, eqb, ltb, leb}
use Rattle.paper.specs.Limits.{max_events, max_marks, max_rules, max_conditions, max_words, book_header, word_size, book_short, book_count, book_length, bad_rule, bad_condition}
use Rattle.paper.specs.Answers.{answer, granted, refusal}
use Rattle.paper.specs.declared.Answer.{Answer}
use Rattle.general.specs.Below.{first}
use Rattle.book.specs.GoodTexts.{good}
use Rattle.book.specs.Image.{stages_in, marks_in, rules_in, conditions_in, words_in, rule_place, condition_place, word_place, rules_offset, conditions_offset, words_offset}
use Rattle.book.specs.Image.{kind_at, sense_at, effect_at, spare_at, number_at, condition_at, target_at, start_at, count_at}
use Rattle.book.specs.Read.{words_from}
use Rattle.book.specs.declared.Counts.{Counts}

-- the header's five counts
abbrev pub counts_of : List ℕ → Counts
counts_of s = record { stages = stages_in s; marks = marks_in s; rules = rules_in s; conditions = conditions_in s; words = words_in s }

-- "stages S (0 to 256), marks M (S to 1,024), rules R (0 to 131,840), conditions Q (0 to 1,024), words W (0 to 655,616)"
unfoldable pub counts_fit : Counts → Bool
counts_fit h =
    leb h.stages max_events && leb h.stages h.marks && leb h.marks max_marks && leb h.rules max_rules
    && leb h.conditions max_conditions && leb h.words max_words

-- "offsets of rules (32), conditions (32 + 10R), words (32 + 10R + 8Q). Length is exactly 32 + 10R + 8Q + 2W."
unfoldable pub layout_fits : List ℕ → Counts → Bool
layout_fits s h =
    eqb (rules_offset s) book_header && eqb (conditions_offset s) (rule_place h.rules) && eqb (words_offset s) (condition_place h.rules h.conditions)
    && eqb (length s) (word_place h.rules h.conditions h.words)

-- "Numbers of an absent trigger or condition are 0; others must exist"
unfoldable pub trigger_fits : ℕ → ℕ → ℕ → ℕ → Bool
trigger_fits S M kind n =
    cond (eqb kind 0) (eqb n 0) (cond (eqb kind 1) (ltb n S) (cond (eqb kind 2) (ltb n M) (cond (eqb kind 3) (ltb n M) false)))

unfoldable pub sense_fits : ℕ → ℕ → ℕ → Bool
sense_fits Q sense c = cond (eqb sense 0) (eqb c 0) (cond (eqb sense 1) (ltb c Q) (cond (eqb sense 2) (ltb c Q) false))

-- the ten bytes from `at`
unfoldable pub rule_fits : ℕ → ℕ → ℕ → List ℕ → ℕ → Bool
rule_fits S M Q s at =
    trigger_fits S M (kind_at s at) (number_at s at) && sense_fits Q (sense_at s at) (condition_at s at) && leb (effect_at s at) 1
    && eqb (spare_at s at) 0 && ltb (target_at s at) M

-- "count at least 1, inside W", and the text is good; the words start at the byte `from`
unfoldable pub condition_fits : ℕ → ℕ → ℕ → List ℕ → ℕ → Bool
condition_fits M W from s at =
    leb 1 (count_at s at) && leb (start_at s at + count_at s at) W && good M (words_from s (from + word_size * start_at s at) (count_at s at))

-- the lowest bad rule, or R
unfoldable pub first_bad_rule : List ℕ → Counts → ℕ
first_bad_rule s h = first h.rules (λ r. not (rule_fits h.stages h.marks h.conditions s (rule_place r)))

-- the lowest bad condition, or Q
unfoldable pub first_bad_condition : List ℕ → Counts → ℕ
first_bad_condition s h =
    first h.conditions (λ c. not (condition_fits h.marks h.words (condition_place h.rules h.conditions) s (condition_place h.rules c)))

unfoldable pub body_answer : List ℕ → Counts → Answer
body_answer s h =
    cond (ltb (first_bad_rule s h) h.rules) (answer bad_rule (first_bad_rule s h) 0)
    (cond (ltb (first_bad_condition s h) h.conditions) (answer bad_condition (first_bad_condition s h) 0) granted)

-- "Lower codes come first; within a code the lowest place"
unfoldable pub image_answer : List ℕ → Answer
image_answer s =
    cond (ltb (length s) book_header) (refusal book_short)
    (cond (not (counts_fit (counts_of s))) (refusal book_count)
    (cond (not (layout_fits s (counts_of s))) (refusal book_length) (body_answer s (counts_of s))))
