-- A book that keeps to the paper's limits has a well-formed image. Assumes nothing.
use Rattle.std.specs.Prelude.{ℕ, ◌+◌, ◌*◌, ◌/◌, ◌%◌, ◌≤◌, ◌<◌, ◌≡◌, Bool, true, false, List, ◌++◌, leb}
use Rattle.std.proofs.Math.Path.{refl}
use Rattle.std.proofs.Common.{sym, ap, subst, ◌∙◌, add_assoc, arith, get_or-append-add}
use Rattle.std.proofs.Math.ListN.{length, get_or-append}
use borrow.Author.Tests.{lt-ltb}
use Rattle.paper.specs.Limits.{max_events, max_marks, max_rules, max_conditions, max_words, book_header, rule_size}
use Rattle.wire.specs.Wire.{u16_at, bytes16}
use Rattle.wire.specs.Laws.{u16-first, u16-second}
use Rattle.book.specs.GoodTexts.{GoodText}
use Rattle.book.specs.Book.{Book, no_rule, condition_of, text_of}
use Rattle.book.specs.Image.{stages_in, marks_in, rules_in, conditions_in, words_in, rule_place, condition_place, condition_from}
use Rattle.general.specs.Lists.{All, all-at}
use Rattle.general.specs.Packing.{Local, read_behind}
use Rattle.book.specs.ImageOf.{kind_byte, trigger_number, sense_byte, condition_number, effect_byte, rule_record, rule_bytes, length-rule, number16, heads, condition_run}
use Rattle.book.specs.ImageOf.{word_run, header_at, length-header, image-length, image_of, book-of-image}
use Rattle.book.specs.Read.{condition-read, text-read}
use Rattle.book.specs.Judging.{trigger_fits, sense_fits, rule_fits}
use Rattle.book.specs.WellRead.{trigger_exists, sense_exists, RuleFormed}
use Rattle.book.specs.WellFormed.{ConditionIn, RuleIn, Headed, WellFormed, rule-says}
use Rattle.book.specs.declared.Rule.{Rule}
use Rattle.book.specs.declared.Trigger.{Trigger}
use Rattle.book.specs.declared.Trigger.TheVariants.{None, Completed, BecomeYes, BecomeNo}
use Rattle.book.specs.declared.Sense.{Sense}
use Rattle.book.specs.declared.Sense.TheVariants.{NoCondition, AsWritten, Negated}

-- ---- a book within the limits

pub record FormedBook (b : Book) : Type 0 where
  pub stages : b.stages ≤ max_events
  pub least : b.stages ≤ b.marks
  pub marks : b.marks ≤ max_marks
  pub rules : length b.rules ≤ max_rules
  pub conditions : length b.conditions ≤ max_conditions
  pub words : length b.words ≤ max_words
  pub each_rule : All (RuleFormed b.stages b.marks (length b.conditions)) b.rules
  pub some : (c : ℕ) → c < length b.conditions → 1 ≤ (condition_of b c).count
  pub inside : (c : ℕ) → c < length b.conditions → (condition_of b c).start + (condition_of b c).count ≤ length b.words
  pub texts : (c : ℕ) → c < length b.conditions → GoodText b.marks (text_of b c)

-- ---- a rule's bytes pass

fits-local : (S M Q : ℕ) → Local (rule_fits S M Q) rule_size
unfolding rule_fits
fits-local S M Q =
    record {
      first = λ s t at h. rw (
        get_or-append s t 0 at (omega arith),
        get_or-append s t 0 (at + 1) (omega arith),
        get_or-append s t 0 (at + 2) (omega arith),
        get_or-append s t 0 (at + 3) (omega arith),
        u16-first s t (at + 4) (omega arith),
        u16-first s t (at + 6) (omega arith),
        u16-first s t (at + 8) (omega arith),
      );
      second = λ s t at. rw (
        add_assoc (length s) at 1,
        add_assoc (length s) at 2,
        add_assoc (length s) at 3,
        add_assoc (length s) at 4,
        add_assoc (length s) at 6,
        add_assoc (length s) at 8,
        get_or-append-add s t at 0,
        get_or-append-add s t (at + 1) 0,
        get_or-append-add s t (at + 2) 0,
        get_or-append-add s t (at + 3) 0,
        u16-second s t (at + 4),
        u16-second s t (at + 6),
        u16-second s t (at + 8),
      );
    }

module _ (S M Q : ℕ) where
  trigger-passes : (t : Trigger) → trigger_exists S M t ≡ true → trigger_fits S M (kind_byte t) (trigger_number t % 256 + 256 * (trigger_number t / 256)) ≡ true
  unfolding trigger_fits trigger_exists
  trigger-passes None h = refl
  trigger-passes (Completed n) h = rw (number16 n) h
  trigger-passes (BecomeYes n) h = rw (number16 n) h
  trigger-passes (BecomeNo n) h = rw (number16 n) h

  sense-passes : (s : Sense) → sense_exists Q s ≡ true → sense_fits Q (sense_byte s) (condition_number s % 256 + 256 * (condition_number s / 256)) ≡ true
  unfolding sense_fits sense_exists
  sense-passes NoCondition h = refl
  sense-passes (AsWritten c) h = rw (number16 c) h
  sense-passes (Negated c) h = rw (number16 c) h

  effect-passes : (b : Bool) → leb (effect_byte b) 1 ≡ true
  effect-passes true = refl
  effect-passes false = refl

  rule-passes : (r : Rule) → RuleFormed S M Q r → rule_fits S M Q (rule_bytes r) 0 ≡ true
  unfolding rule_fits rule_bytes rule_record u16_at bytes16
  rule-passes r h =
      rw (
        trigger-passes r.trigger h.trigger,
        sense-passes r.sense h.sense,
        effect-passes r.effect,
        number16 r.target,
        lt-ltb r.target M h.target,
      )

-- ---- the image

module _ (b : Book) (h : FormedBook b) where
  abbrev s : List ℕ
  s = image_of b

  stages-in : stages_in s ≡ b.stages
  stages-in = header_at b 0 (omega arith)

  marks-in : marks_in s ≡ b.marks
  marks-in = header_at b 1 (omega arith)

  rules-in : rules_in s ≡ length b.rules
  rules-in = header_at b 2 (omega arith)

  conditions-in : conditions_in s ≡ length b.conditions
  conditions-in = header_at b 3 (omega arith)

  words-in : words_in s ≡ length b.words
  words-in = header_at b 4 (omega arith)

  headed : Headed s
  headed =
      record {
        long = rw (image-length b) (omega arith);
        counted = record {
          stages = rw stages-in h.stages;
          least = rw (stages-in, marks-in) h.least;
          marks = rw marks-in h.marks;
          rules = rw rules-in h.rules;
          conditions = rw conditions-in h.conditions;
          words = rw words-in h.words;
        };
        laid_out = record {
          rules = header_at b 5 (omega arith);
          conditions = header_at b 6 (omega arith) ∙ rw rules-in (omega arith);
          words = header_at b 7 (omega arith) ∙ rw (rules-in, conditions-in) (omega arith);
          whole = image-length b ∙ rw (rules-in, conditions-in, words-in);
        };
      }

  rule-in : (r : ℕ) → r < rules_in s → RuleIn s r
  unfolding image_of
  rule-in r l =
      let k : r < length b.rules = rw rules-in at l in
      rule-says (stages_in s) (marks_in s) (conditions_in s) s (rule_place r)
      (rw (stages-in, marks-in, conditions-in)
      (read_behind rule_bytes (rule_fits b.stages b.marks (length b.conditions)) rule_size length-rule (fits-local b.stages b.marks (length b.conditions)) no_rule
      (heads b) b.rules (condition_run b ++ word_run b) book_header (length-header b) r k
      ∙ rule-passes b.stages b.marks (length b.conditions) _ (all-at _ no_rule b.rules h.each_rule r k)))

  condition-in : (c : ℕ) → c < conditions_in s → ConditionIn s c
  condition-in c l =
      let k : c < length b.conditions = rw conditions-in at l in
      let e : condition_from s (condition_place (rules_in s) c) ≡ condition_of b c = sym (condition-read s c l) ∙ ap (λ (x : Book). condition_of x c) (book-of-image b) in
      let i : (condition_from s (condition_place (rules_in s) c)).start + (condition_from s (condition_place (rules_in s) c)).count ≤ words_in s = rw (e, words-in) (h.inside c k) in
      record {
        least = rw e (h.some c k);
        inside = i;
        text = rw marks-in (subst (λ (t : List ℕ). GoodText b.marks t) (sym (ap (λ (x : Book). text_of x c) (book-of-image b)) ∙ text-read s c l i) (h.texts c k));
      }

  pub formed-image : WellFormed s
  formed-image = record { headed = headed; rules = rule-in; conditions = condition-in }
