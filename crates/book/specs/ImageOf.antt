-- The image of a book, which reads back as the book, its length, and the limits within which it is made of bytes. Assumes nothing.
use Rattle.std.specs.Prelude.{ℕ, ◌+◌, ◌*◌, ◌/◌, ◌%◌, ◌≤◌, ◌<◌, ◌≡◌, refl, Bool, true, false, eqb, length, get_or}
use Rattle.std.proofs.Common.{◌∙◌, add_assoc, arith, length-append, get_or-append-add}
use mathlib.Core.List.{List, [], ◌∷◌, ◌++◌, append_assoc, append-nil}
use Rattle.std.proofs.Math.ListN.{get_or-append}
use Rattle.paper.specs.Limits.{max_events, max_marks, max_rules, max_conditions, max_words, book_header, rule_size, condition_size, word_size}
use Rattle.general.specs.Tables.{tabulate}
use Rattle.general.specs.Packing.{Local, read-run, read-list}
use Rattle.wire.specs.Wire.{u16_at, u32_at, bytes16, bytes32}
use Rattle.wire.specs.Laws.{u16-first, u16-second, u32-first, u32-second, u16-bytes, u32-bytes, length-bytes16, length-bytes32}
use Rattle.book.specs.Book.{Book, Condition, no_rule, no_condition}
use Rattle.book.specs.Image.{rule_place, condition_place, word_place, trigger_from, sense_from, rule_from, condition_from, book_of}
use Rattle.general.specs.Lists.{All, all_append, packed, packed_all, length-packed}
use Rattle.book.specs.declared.Rule.{Rule}
use Rattle.book.specs.declared.Trigger.{Trigger}
use Rattle.book.specs.declared.Trigger.TheVariants.{None, Completed, BecomeYes, BecomeNo}
use Rattle.book.specs.declared.Sense.{Sense}
use Rattle.book.specs.declared.Sense.TheVariants.{NoCondition, AsWritten, Negated}

-- ---- "Fields: trigger kind, sense, effect, a zero byte, trigger number, condition number, target mark"

abbrev pub kind_byte : Trigger → ℕ
kind_byte None = 0
kind_byte (Completed n) = 1
kind_byte (BecomeYes n) = 2
kind_byte (BecomeNo n) = 3

-- "Numbers of an absent trigger or condition are 0"
abbrev pub trigger_number : Trigger → ℕ
trigger_number None = 0
trigger_number (Completed n) = n
trigger_number (BecomeYes n) = n
trigger_number (BecomeNo n) = n

abbrev pub sense_byte : Sense → ℕ
sense_byte NoCondition = 0
sense_byte (AsWritten c) = 1
sense_byte (Negated c) = 2

abbrev pub condition_number : Sense → ℕ
condition_number NoCondition = 0
condition_number (AsWritten c) = c
condition_number (Negated c) = c

abbrev pub effect_byte : Bool → ℕ
effect_byte true = 1
effect_byte false = 0

unfoldable pub rule_record : ℕ → ℕ → ℕ → ℕ → ℕ → ℕ → List ℕ
rule_record kind sense effect number condition target =
    kind ∷ (sense ∷ (effect ∷ (0 ∷ (bytes16 number ++ (bytes16 condition ++ bytes16 target)))))

unfoldable pub rule_bytes : Rule → List ℕ
rule_bytes r =
    rule_record (kind_byte r.trigger) (sense_byte r.sense) (effect_byte r.effect) (trigger_number r.trigger) (condition_number r.sense) r.target

unfoldable pub condition_bytes : Condition → List ℕ
condition_bytes c = bytes32 c.start ++ bytes32 c.count

-- "Header, eight 32-bit numbers"; "offsets of rules (32), conditions (32 + 10R), words (32 + 10R + 8Q)"
unfoldable pub header_bytes : ℕ → ℕ → ℕ → ℕ → ℕ → List ℕ
header_bytes S M R Q W =
    packed bytes32 (S ∷ (M ∷ (R ∷ (Q ∷ (W ∷ (rule_place 0 ∷ (condition_place R 0 ∷ (word_place R Q 0 ∷ []))))))))

unfoldable pub image_of : Book → List ℕ
image_of b =
    header_bytes b.stages b.marks (length b.rules) (length b.conditions) (length b.words)
    ++ (packed rule_bytes b.rules ++ (packed condition_bytes b.conditions ++ packed bytes16 b.words))

-- ---- the parts read back

word-local : Local u16_at word_size
word-local = record { first = u16-first; second = u16-second }

number-local : Local u32_at 4
number-local = record { first = u32-first; second = u32-second }

pub length-condition : (c : Condition) → length (condition_bytes c) ≡ condition_size
unfolding condition_bytes bytes32 bytes16
length-condition c = refl

number32 : (n : ℕ) → n % 65536 % 256 + 256 * (n % 65536 / 256) + 65536 * (n / 65536 % 256 + 256 * (n / 65536 / 256)) ≡ n
number32 n = omega arith

condition-back : (c : Condition) → condition_from (condition_bytes c) 0 ≡ c
unfolding condition_from condition_bytes u32_at u16_at bytes32 bytes16
condition-back c = rw (number32 c.start, number32 c.count)

condition-local : Local condition_from condition_size
unfolding condition_from
condition-local =
    record {
      first = λ s t at h. rw (u32-first s t at (omega arith), u32-first s t (at + 4) (omega arith));
      second = λ s t at. rw (u32-second s t at, add_assoc (length s) at 4, u32-second s t (at + 4));
    }

pub length-rule : (r : Rule) → length (rule_bytes r) ≡ rule_size
unfolding rule_bytes rule_record bytes16
length-rule r = refl

pub number16 : (n : ℕ) → n % 256 + 256 * (n / 256) ≡ n
number16 n = omega arith

trigger-back : (t : Trigger) → trigger_from (kind_byte t) (trigger_number t % 256 + 256 * (trigger_number t / 256)) ≡ t
unfolding trigger_from
trigger-back None = refl
trigger-back (Completed n) = rw (number16 n)
trigger-back (BecomeYes n) = rw (number16 n)
trigger-back (BecomeNo n) = rw (number16 n)

sense-back : (s : Sense) → sense_from (sense_byte s) (condition_number s % 256 + 256 * (condition_number s / 256)) ≡ s
unfolding sense_from
sense-back NoCondition = refl
sense-back (AsWritten n) = rw (number16 n)
sense-back (Negated n) = rw (number16 n)

effect-back : (b : Bool) → eqb (effect_byte b) 1 ≡ b
effect-back true = refl
effect-back false = refl

rule-back : (r : Rule) → rule_from (rule_bytes r) 0 ≡ r
unfolding rule_from rule_bytes rule_record u16_at bytes16
rule-back r = rw (trigger-back r.trigger, sense-back r.sense, effect-back r.effect, number16 r.target)

rule-local : Local rule_from rule_size
unfolding rule_from
rule-local =
    record {
      first = λ s t at h. rw (
        get_or-append s t 0 at (omega arith),
        get_or-append s t 0 (at + 1) (omega arith),
        get_or-append s t 0 (at + 2) (omega arith),
        u16-first s t (at + 4) (omega arith),
        u16-first s t (at + 6) (omega arith),
        u16-first s t (at + 8) (omega arith),
      );
      second = λ s t at. rw (
        add_assoc (length s) at 1,
        add_assoc (length s) at 2,
        add_assoc (length s) at 4,
        add_assoc (length s) at 6,
        add_assoc (length s) at 8,
        get_or-append-add s t at 0,
        get_or-append-add s t (at + 1) 0,
        get_or-append-add s t (at + 2) 0,
        u16-second s t (at + 4),
        u16-second s t (at + 6),
        u16-second s t (at + 8),
      );
    }

-- ---- the image reads back

module _ (b : Book) where
  abbrev pub heads : List ℕ
  heads = header_bytes b.stages b.marks (length b.rules) (length b.conditions) (length b.words)

  abbrev pub rule_run : List ℕ
  rule_run = packed rule_bytes b.rules

  abbrev pub condition_run : List ℕ
  condition_run = packed condition_bytes b.conditions

  abbrev pub word_run : List ℕ
  word_run = packed bytes16 b.words

  -- the header's number i
  pub header_at : (i : ℕ) → i < 8 → u32_at (image_of b) (4 * i)
      ≡ get_or (b.stages ∷
      (b.marks ∷
      (length b.rules ∷
      (length b.conditions ∷ (length b.words ∷ (rule_place 0 ∷ (condition_place (length b.rules) 0 ∷ (word_place (length b.rules) (length b.conditions) 0 ∷ [])))))))) i 0
  unfolding image_of header_bytes
  header_at i h = read-run bytes32 u32_at 4 length-bytes32 number-local 0 _ (rule_run ++ (condition_run ++ word_run)) i h ∙ u32-bytes _

  pub length-header : length heads ≡ book_header
  unfolding header_bytes
  length-header = length-packed bytes32 4 length-bytes32 _

  pub length-rules : length (heads ++ rule_run) ≡ rule_place (length b.rules)
  length-rules = length-append heads rule_run ∙ rw (length-header, length-packed rule_bytes rule_size length-rule b.rules)

  pub length-conditions : length ((heads ++ rule_run) ++ condition_run) ≡ condition_place (length b.rules) (length b.conditions)
  length-conditions =
      length-append (heads ++ rule_run) condition_run ∙ rw (length-rules, length-packed condition_bytes condition_size length-condition b.conditions)

  -- "Length is exactly 32 + 10R + 8Q + 2W."
  pub image-length : length (image_of b) ≡ book_header + rule_size * length b.rules + condition_size * length b.conditions + word_size * length b.words
  unfolding image_of
  image-length =
      rw (← append_assoc heads rule_run (condition_run ++ word_run), ← append_assoc (heads ++ rule_run) condition_run word_run)
      (length-append ((heads ++ rule_run) ++ condition_run) word_run ∙ rw (length-conditions, length-packed bytes16 word_size length-bytes16 b.words))

  rules-back : tabulate (length b.rules) (λ r. rule_from (image_of b) (rule_place r)) ≡ b.rules
  unfolding image_of
  rules-back = read-list rule_bytes rule_from rule_size length-rule rule-local no_rule rule-back heads b.rules (condition_run ++ word_run) book_header length-header

  conditions-back : tabulate (length b.conditions) (λ c. condition_from (image_of b) (condition_place (length b.rules) c)) ≡ b.conditions
  unfolding image_of
  conditions-back =
      rw (← append_assoc heads rule_run (condition_run ++ word_run))
      (read-list condition_bytes condition_from condition_size length-condition condition-local no_condition condition-back (heads ++ rule_run) b.conditions word_run
      (rule_place (length b.rules)) length-rules)

  words_back : tabulate (length b.words) (λ w. u16_at (image_of b) (word_place (length b.rules) (length b.conditions) w)) ≡ b.words
  unfolding image_of
  words_back =
      rw (← append_assoc heads rule_run (condition_run ++ word_run), ← append_assoc (heads ++ rule_run) condition_run word_run, ← append-nil word_run)
      (read-list bytes16 u16_at word_size length-bytes16 word-local 0 u16-bytes ((heads ++ rule_run) ++ condition_run) b.words []
      (condition_place (length b.rules) (length b.conditions)) length-conditions)

  -- what is written is what is read
  pub book-of-image : book_of (image_of b) ≡ b
  unfolding book_of
  book-of-image =
      rw (
        header_at 0 (omega arith),
        header_at 1 (omega arith),
        header_at 2 (omega arith),
        header_at 3 (omega arith),
        header_at 4 (omega arith),
        rules-back,
        conditions-back,
        words_back,
      )

-- ---- the limits within which an image is made of bytes

pub record SmallRule (r : Rule) : Type 0 where
  pub number : trigger_number r.trigger < 65536
  pub condition : condition_number r.sense < 65536
  pub target : r.target < 65536

pub record SmallCondition (c : Condition) : Type 0 where
  pub start : c.start ≤ max_words
  pub count : c.count ≤ max_words

pub record WithinLimits (b : Book) : Type 0 where
  pub stages : b.stages ≤ max_events
  pub marks : b.marks ≤ max_marks
  pub rules : length b.rules ≤ max_rules
  pub conditions : length b.conditions ≤ max_conditions
  pub words : length b.words ≤ max_words
  pub each_rule : All SmallRule b.rules
  pub each_condition : All SmallCondition b.conditions
  pub each_word : All (λ w. w < 65536) b.words

abbrev pub Byte : ℕ → Type 0
Byte x = x < 256

bytes-of-16 : (n : ℕ) → n < 65536 → All Byte (bytes16 n)
unfolding bytes16
bytes-of-16 n h = (omega arith, (omega arith, tt))

bytes-of-32 : (n : ℕ) → n < 4294967296 → All Byte (bytes32 n)
unfolding bytes32 bytes16
bytes-of-32 n h = (omega arith, (omega arith, (omega arith, (omega arith, tt))))

kind-byte : (t : Trigger) → kind_byte t < 256
kind-byte None = omega arith
kind-byte (Completed n) = omega arith
kind-byte (BecomeYes n) = omega arith
kind-byte (BecomeNo n) = omega arith

sense-byte : (s : Sense) → sense_byte s < 256
sense-byte NoCondition = omega arith
sense-byte (AsWritten n) = omega arith
sense-byte (Negated n) = omega arith

effect-byte : (b : Bool) → effect_byte b < 256
effect-byte true = omega arith
effect-byte false = omega arith

rule-bytes : (r : Rule) → SmallRule r → All Byte (rule_bytes r)
unfolding rule_bytes rule_record
rule-bytes r h = (
  kind-byte r.trigger,
  (
    sense-byte r.sense,
    (
      effect-byte r.effect,
      (
        omega arith,
        all_append Byte (bytes16 (trigger_number r.trigger)) _ (bytes-of-16 _ h.number)
            (all_append Byte (bytes16 (condition_number r.sense)) _ (bytes-of-16 _ h.condition) (bytes-of-16 _ h.target)),
      ),
    ),
  ),
)

condition-bytes : (c : Condition) → SmallCondition c → All Byte (condition_bytes c)
unfolding condition_bytes
condition-bytes c h =
    let s : c.start ≤ max_words = h.start in
    let n : c.count ≤ max_words = h.count in
    all_append Byte (bytes32 c.start) _ (bytes-of-32 c.start (omega arith)) (bytes-of-32 c.count (omega arith))

pub image-bytes : (b : Book) → WithinLimits b → All Byte (image_of b)
unfolding image_of header_bytes
image-bytes b h =
    all_append Byte (heads b) _
    (packed_all bytes32 (λ n. n < 4294967296) Byte bytes-of-32 _
    (omega arith, (omega arith, (omega arith, (omega arith, (omega arith, (omega arith, (omega arith, (omega arith, tt)))))))))
    (all_append Byte (rule_run b) _ (packed_all rule_bytes SmallRule Byte rule-bytes b.rules h.each_rule)
    (all_append Byte (condition_run b) _ (packed_all condition_bytes SmallCondition Byte condition-bytes b.conditions h.each_condition)
    (packed_all bytes16 (λ w. w < 65536) Byte bytes-of-16 b.words h.each_word)))
