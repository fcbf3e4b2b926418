-- The turns of a completion, one by one, as the code takes them. Assumes nothing.
use mathlib.Core.Path.{◌≡◌, refl, sym, ap, ◌∙◌}
use mathlib.Core.Logic.{◌↔◌}
use mathlib.Core.Bool.{Bool, true, false}
use mathlib.Core.List.{List}
use Prim.Native.Nat.{ℕ, ◌+◌, ◌≤◌, ◌<◌}
use native.Mathlib.Omega.{arith}
use lib.ListN.{length, get_or, drop}
use Rattle.paper.specs.Limits.{max_marks}
use Rattle.general.specs.Cases.{cases}
use Rattle.order_theory.specs.Snapshots.{step_l, run_l-on, run_l-end}
use Rattle.book.specs.Text.{snap_of}
use Rattle.book.specs.Book.{rule_of, text_of}
use Rattle.book.specs.Image.{stages_in, marks_in, rules_in, conditions_in, rule_place, rule_from, book_of}
use Rattle.book.specs.Read.{rule-read}
use Rattle.book.specs.WellFormed.{WellFormed}
use Rattle.book.specs.WellRead.{RuleFormed, rule-known}
use Rattle.book.specs.Firing.{fires, firing, firing-fires}
use Rattle.book.specs.Effects.{effect_on}
use Rattle.book.specs.declared.Rule.{Rule}
use Rattle.rule_order.specs.Rules.{net_of, acts_of}
use Rattle.rule_order.specs.Nets.{rules_of}
use Rattle.runner.specs.Completing.{turned, through}

-- one turn: the rule r in the marks as they stand
pub turn-fired : (s : List ℕ) (start : List Bool) (stage : ℕ) (marks : List Bool) (r : ℕ) → fires (book_of s) (snap_of start) stage (snap_of marks) r ≡ true
    → step_l (rules_of s stage) (acts_of (book_of s) (snap_of start) stage) marks r ≡ effect_on marks (rule_of (book_of s) r)
unfolding step_l net_of acts_of
turn-fired s start stage marks r e = rw e

pub turn-kept : (s : List ℕ) (start : List Bool) (stage : ℕ) (marks : List Bool) (r : ℕ) → fires (book_of s) (snap_of start) stage (snap_of marks) r ≡ false
    → step_l (rules_of s stage) (acts_of (book_of s) (snap_of start) stage) marks r ≡ marks
unfolding step_l net_of acts_of
turn-kept s start stage marks r e = rw e

-- j rules had their turn: what the rest gives from the marks is what the whole gives from the start
abbrev pub Going : List ℕ → List ℕ → List Bool → ℕ → List Bool → List Bool → ℕ → Type 0
Going s order start stage began marks j = through s start stage marks (drop j order) ≡ through s start stage began order

module _ (s order : List ℕ) (start : List Bool) (stage : ℕ) (began marks : List Bool) (j : ℕ) (g : Going s order start stage began marks j) where
  pub going-last : length order ≤ j → marks ≡ through s start stage began order
  unfolding through
  going-last h = sym (run_l-end (rules_of s stage) (acts_of (book_of s) (snap_of start) stage) order marks j h) ∙ g

  pub going-on : (marks' : List Bool) → j < length order → marks' ≡ turned s start stage marks (get_or order j 0) → Going s order start stage began marks' (j + 1)
  unfolding through
  going-on marks' h z = sym (run_l-on (rules_of s stage) (acts_of (book_of s) (snap_of start) stage) order marks j h ∙ rw (← z)) ∙ g

-- ---- one turn

module _ (s : List ℕ) (start : List Bool) (stage : ℕ) (marks : List Bool) (r : ℕ) (rule : Rule) (i : r < rules_in s) (e : rule ≡ rule_from s (rule_place r)) where
  read : rule ≡ rule_of (book_of s) r
  read = e ∙ sym (rule-read s r i)

  fires-so : {b : Bool} → b ≡ firing (text_of (book_of s)) (snap_of start) stage (snap_of marks) rule → b ≡ fires (book_of s) (snap_of start) stage (snap_of marks) r
  fires-so f = f ∙ firing-fires (book_of s) (snap_of start) stage (snap_of marks) r rule read

  pub fired : {b : Bool} → b ≡ firing (text_of (book_of s)) (snap_of start) stage (snap_of marks) rule → b ≡ true → (marks' : List Bool) → marks' ≡ effect_on marks rule → marks' ≡ turned s start stage marks r
  fired f t marks' z = z ∙ ap (effect_on marks) read ∙ sym (turn-fired s start stage marks r (sym (fires-so f) ∙ t))

  pub kept : {b : Bool} → b ≡ firing (text_of (book_of s)) (snap_of start) stage (snap_of marks) rule → b ≡ false → marks ≡ turned s start stage marks r
  kept f t = sym (turn-kept s start stage marks r (sym (fires-so f) ∙ t))

  -- whether it fires or not, it leaves the marks as they are
  pub idle : {a : Bool} → (a ≡ false) ↔ (effect_on marks rule ≡ marks) → a ≡ false → marks ≡ turned s start stage marks r
  idle x t = cases (firing (text_of (book_of s)) (snap_of start) stage (snap_of marks) rule) (λ u. fired refl u marks (sym (x.0 t))) (λ u. kept refl u)

-- what the code asks of a rule that it has read
pub known_so : (s : List ℕ) (r : ℕ) (rule : Rule) → WellFormed s → r < rules_in s → rule ≡ rule_from s (rule_place r) → RuleFormed (stages_in s) (marks_in s) (conditions_in s) rule
known_so s r rule w h e = rw e (rule-known s w r h)

pub target-so : (s : List ℕ) (r : ℕ) (rule : Rule) → WellFormed s → r < rules_in s → rule ≡ rule_from s (rule_place r) → rule.target < max_marks
target-so s r rule w h e = let k = (known_so s r rule w h e).target in let m = w.headed.counted.marks in omega arith
