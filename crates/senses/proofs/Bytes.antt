-- What the bytes of a rule record say of the rule. Assumes nothing.
use mathlib.Core.Path.{◌≡◌, sym, ◌∙◌}
use mathlib.Core.Bool.{true}
use mathlib.Core.List.{List}
use Prim.Native.Nat.{ℕ, ◌+◌, ◌*◌, ◌≤◌, ◌<◌}
use native.Mathlib.Omega.{arith}
use lib.Dec.{eqb}
use borrow.Author.Tests.{ne_eqb}
use Rattle.paper.specs.Limits.{max_events, max_marks}
use Rattle.general.specs.Cases.{cases}
use Rattle.book.specs.Book.{rule_of}
use Rattle.book.specs.Image.{rules_in, marks_in, rule_place, trigger_from, sense_from, rule_from, book_of, kind_at, sense_at, effect_at, number_at, condition_at, target_at}
use Rattle.book.specs.Read.{rule-read}
use Rattle.book.specs.WellFormed.{WellFormed}
use Rattle.book.specs.WellRead.{trigger_exists, known-wider, rule-exists}
use Rattle.senses.specs.Senses.{turn, code, code_of}

turn-other : (k n : ℕ) → (k ≡ 1 → ⊥) → turn (trigger_from k n) ≡ max_events
unfolding turn trigger_from
turn-other k n h = cases (eqb k 0) (λ e. rw e) (λ e. cases (eqb k 2) (λ f. rw (e, ne_eqb k 1 h, f)) (λ f. rw (e, ne_eqb k 1 h, f)))

module _ (s : List ℕ) (r : ℕ) (w : WellFormed s) (h : r < rules_in s) where
  pub target-read : (t : ℕ) → t ≡ target_at s (rule_place r) → (t ≡ (rule_of (book_of s) r).target) × (t < marks_in s)
  unfolding rule_from
  target-read t e = (e ∙ rw (rule-read s r h), rw e (w.rules r h).target)

  pub effect-read : eqb (effect_at s (rule_place r)) 1 ≡ (rule_of (book_of s) r).effect
  unfolding rule_from
  effect-read = rw (rule-read s r h)

  pub turn-completed : (t : ℕ) → kind_at s (rule_place r) ≡ 1 → t ≡ number_at s (rule_place r) → (t ≡ turn (rule_of (book_of s) r).trigger) × (t ≤ max_events)
  unfolding rule_from trigger_from turn
  turn-completed t k e = (e ∙ rw (rule-read s r h, k), let a = w.headed.counted.stages in let b = (w.rules r h).completed k in omega arith)

  pub turn-none : (kind_at s (rule_place r) ≡ 1 → ⊥) → (max_events ≡ turn (rule_of (book_of s) r).trigger) × (max_events ≤ max_events)
  unfolding rule_from
  turn-none k = (rw (rule-read s r h) (sym (turn-other (kind_at s (rule_place r)) (number_at s (rule_place r)) k)), omega arith)

  pub sense-none : sense_at s (rule_place r) ≡ 0 → 1 ≡ code_of (book_of s) r
  unfolding rule_from sense_from code
  sense-none e = rw (rule-read s r h, e)

  pub sense-written : (c : ℕ) → c ≡ condition_at s (rule_place r) → sense_at s (rule_place r) ≡ 1 → 2 * c + 2 ≡ code_of (book_of s) r
  unfolding rule_from sense_from code
  sense-written c f e = rw (rule-read s r h, e, f)

  pub sense-negated : (c : ℕ) → c ≡ condition_at s (rule_place r) → (sense_at s (rule_place r) ≡ 0 → ⊥) → (sense_at s (rule_place r) ≡ 1 → ⊥) → 2 * c + 3 ≡ code_of (book_of s) r
  unfolding rule_from sense_from code
  sense-negated c f m n = rw (rule-read s r h, f, ne_eqb (sense_at s (rule_place r)) 0 m, ne_eqb (sense_at s (rule_place r)) 1 n)

  pub trigger-known : trigger_exists max_events max_marks (rule_of (book_of s) r).trigger ≡ true
  trigger-known = known-wider _ _ _ _ (rule_of (book_of s) r).trigger w.headed.counted.stages w.headed.counted.marks (rule-exists s w r h).trigger
