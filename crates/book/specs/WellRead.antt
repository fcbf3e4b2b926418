-- What a well-formed image gives to who reads it: rules whose numbers exist, and texts that lie inside it and are good. Assumes nothing.
use Rattle.std.specs.Prelude.{◌≡◌, refl, Bool, true, List, ℕ, ◌+◌, ◌*◌, ◌≤◌, ◌<◌, eqb, ltb}
use Rattle.std.proofs.Common.{sym, ap, ◌∙◌}
use native.Mathlib.Omega.{arith}
use Rattle.std.proofs.Math.ListN.{length}
use borrow.Author.Tests.{eqb-true, eqb-false, ltb-true, lt-ltb}
use Rattle.paper.specs.Limits.{max_marks, rule_size, condition_size, word_size}
use Rattle.general.specs.Cases.{cases}
use Rattle.book.specs.Text.{Snap, holds}
use Rattle.book.specs.GoodTexts.{good, text-good, good-wider}
use Rattle.book.specs.Book.{rule_of, text_of}
use Rattle.book.specs.Image.{stages_in, marks_in, rules_in, conditions_in, rule_place, condition_place, trigger_from, sense_from, rule_from, condition_from, book_of}
use Rattle.book.specs.Image.{kind_at, sense_at, number_at, condition_at, start_at, count_at}
use Rattle.book.specs.Read.{words_from, text_from, rule-read, text-read}
use Rattle.book.specs.Judging.{counts_of}
use Rattle.book.specs.Reading.{span_from}
use Rattle.book.specs.declared.Counts.{Counts}
use Rattle.book.specs.declared.Span.{Span}
use Rattle.book.specs.WellFormed.{WellFormed, GoodRule}
use Rattle.book.specs.declared.Rule.{Rule}
use Rattle.book.specs.declared.Trigger.{Trigger}
use Rattle.book.specs.declared.Trigger.TheVariants.{None, Completed, BecomeYes, BecomeNo}
use Rattle.book.specs.declared.Sense.{Sense}
use Rattle.book.specs.declared.Sense.TheVariants.{NoCondition, AsWritten, Negated}

-- ---- a rule whose numbers exist: "a completed stage below S, other trigger marks and the target below M, a condition below Q"

unfoldable pub trigger_exists : ℕ → ℕ → Trigger → Bool
trigger_exists S M None = true
trigger_exists S M (Completed n) = ltb n S
trigger_exists S M (BecomeYes n) = ltb n M
trigger_exists S M (BecomeNo n) = ltb n M

unfoldable pub sense_exists : ℕ → Sense → Bool
sense_exists Q NoCondition = true
sense_exists Q (AsWritten c) = ltb c Q
sense_exists Q (Negated c) = ltb c Q

pub record RuleFormed (S M Q : ℕ) (r : Rule) : Type 0 where
  pub trigger : trigger_exists S M r.trigger ≡ true
  pub sense : sense_exists Q r.sense ≡ true
  pub target : r.target < M

-- the same in more
pub known-wider : (S S' M M' : ℕ) (t : Trigger) → S ≤ S' → M ≤ M' → trigger_exists S M t ≡ true → trigger_exists S' M' t ≡ true
unfolding trigger_exists
known-wider S S' M M' None a b e = refl
known-wider S S' M M' (Completed n) a b e = lt-ltb n S' (omega (arith, ltb-true n S e))
known-wider S S' M M' (BecomeYes n) a b e = lt-ltb n M' (omega (arith, ltb-true n M e))
known-wider S S' M M' (BecomeNo n) a b e = lt-ltb n M' (omega (arith, ltb-true n M e))

module _ (S M Q : ℕ) (s : List ℕ) (at : ℕ) (g : GoodRule S M Q s at) where
  trigger-known : (k n : ℕ) → k ≤ 3 → (k ≡ 1 → n < S) → (2 ≤ k → n < M) → trigger_exists S M (trigger_from k n) ≡ true
  unfolding trigger_exists trigger_from
  trigger-known k n l a b =
      cases (eqb k 0) (λ e. rw e)
      (λ x. cases (eqb k 1) (λ e. rw (x, e) (lt-ltb n S (a (eqb-true k 1 e))))
      (λ y. let m : 2 ≤ k = omega (arith, eqb-false k 0 x, eqb-false k 1 y) in
      cases (eqb k 2) (λ e. rw (x, y, e) (lt-ltb n M (b m))) (λ z. rw (x, y, z) (lt-ltb n M (b m)))))

  sense-known : (k c : ℕ) → (1 ≤ k → c < Q) → sense_exists Q (sense_from k c) ≡ true
  unfolding sense_exists sense_from
  sense-known k c a =
      cases (eqb k 0) (λ e. rw e)
      (λ x. let m : 1 ≤ k = omega (arith, eqb-false k 0 x) in cases (eqb k 1) (λ e. rw (x, e) (lt-ltb c Q (a m))) (λ y. rw (x, y) (lt-ltb c Q (a m))))

  good-known : RuleFormed S M Q (rule_from s at)
  unfolding rule_from
  good-known =
      record {
        trigger = trigger-known (kind_at s at) (number_at s at) g.kind g.completed g.become;
        sense = sense-known (sense_at s at) (condition_at s at) g.condition;
        target = g.target;
      }

module _ (s : List ℕ) (w : WellFormed s) where
  -- every rule's bytes lie in the image, and its numbers exist
  pub rule-inside : (r : ℕ) → r < rules_in s → rule_place r + rule_size ≤ length s
  rule-inside r h = let e = w.headed.laid_out.whole in omega arith

  pub rule-known : (r : ℕ) → r < rules_in s → RuleFormed (stages_in s) (marks_in s) (conditions_in s) (rule_from s (rule_place r))
  rule-known r h = good-known (stages_in s) (marks_in s) (conditions_in s) s (rule_place r) (w.rules r h)

  pub rule-exists : (r : ℕ) → r < rules_in s → RuleFormed (stages_in s) (marks_in s) (conditions_in s) (rule_of (book_of s) r)
  rule-exists r h = rw (rule-read s r h) (rule-known r h)

  -- every condition's text is the book's, and good
  pub text-is : (c : ℕ) → c < conditions_in s → text_of (book_of s) c ≡ text_from s (condition_from s (condition_place (rules_in s) c))
  text-is c h = text-read s c h (w.conditions c h).inside

-- ---- for a reader: the image beside the counts of its header

pub record Opened (s : List ℕ) (h : Counts) : Type 0 where
  pub formed : WellFormed s
  pub counts : h ≡ counts_of s

module _ (s : List ℕ) (h : Counts) (o : Opened s h) (c : ℕ) (l : c < conditions_in s) where
  pub span-inside : condition_place h.rules c + condition_size ≤ length s
  span-inside = rw o.counts (let e = o.formed.headed.laid_out.whole in omega arith)

  -- the words that the condition's record names, where the words begin at the byte `from`
  module _ (span : Span) (from : ℕ) (a : span ≡ span_from s (condition_place h.rules c)) (b : from ≡ condition_place h.rules h.conditions) where
    abbrev its_words : List ℕ
    its_words = words_from s (from + word_size * span.start) span.count

    as_read : its_words ≡ text_from s (condition_from s (condition_place (rules_in s) c))
    unfolding condition_from
    as_read = rw (a, b, o.counts)

    pub span-text : its_words ≡ text_of (book_of s) c
    span-text = as_read ∙ sym (text-is s o.formed c l)

    pub span_value : (m : Snap) (r : Bool) → r ≡ holds m its_words → r ≡ holds m (text_of (book_of s) c)
    span_value m r e = e ∙ ap (holds m) span-text

    pub span-asks : (from + word_size * span.start + word_size * span.count ≤ length s) × (good max_marks its_words ≡ true)
    unfolding condition_from
    span-asks =
        let e = o.formed.headed.laid_out.whole in
        let g = o.formed.conditions c l in
        let i = g.inside in
        let k : condition_place (rules_in s) (conditions_in s) + word_size * start_at s (condition_place (rules_in s) c) + word_size * count_at s (condition_place (rules_in s) c) ≤ length s = omega arith in
        (rw (a, b, o.counts) k, rw as_read (good-wider (marks_in s) max_marks _ o.formed.headed.counted.marks (text-good (marks_in s) _ g.text)))
