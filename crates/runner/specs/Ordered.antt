-- What an answer 0 says of the book, the stage and the order, and which refusal each test gives. Assumes nothing.
use Rattle.std.specs.Prelude.{◌≡◌, Bool, true, false, ◌&&◌, ℕ, ◌+◌, ◌≤◌, ◌<◌, eqb, ltb, leb, length, get_or}
use Rattle.std.proofs.Common.{sym, arith}
use mathlib.Core.List.{List}
use borrow.Author.Tests.{eqb-true, eqb-false, ne_eqb, ltb-true, le-leb, leb-true}
use Rattle.paper.specs.Limits.{max_marks, order_unfit, no_such_stage}
use Rattle.paper.specs.declared.Answer.{Answer}
use Rattle.general.specs.Cases.{cases}
use Rattle.general.specs.Below.{some_of, some-none}
use Rattle.order_theory.specs.Order.{Fit}
use Rattle.order_theory.specs.Pass.{fit_pass}
use Rattle.order_theory.proofs.Pass.{fit-pass}
use Rattle.order_theory.proofs.Index.{fit_at}
use Rattle.book.specs.Text.{snap_of}
use Rattle.book.specs.Image.{stages_in, rules_in}
use Rattle.book.specs.Judging.{counts_of}
use Rattle.book.specs.declared.Counts.{Counts}
use Rattle.rule_order.specs.Nets.{rules_of, count-is}
use Rattle.judge.specs.Checking.{book_answer, BookPasses}
use Rattle.judge.proofs.Checking.{book-passes}
use Rattle.runner.specs.Completing.{fitted, order_answer, any_from}

-- ---- the book and the order

-- a book that the check passes, a stage of it, and an order that respects its dependencies
pub record Ordered (s order : List ℕ) (stage : ℕ) : Type 0 where
  pub passes : BookPasses s
  pub known : stage < stages_in s
  pub fit : Fit (rules_of s stage) order

-- the same, and these are the book's counts
pub record OrderedWith (s order : List ℕ) (stage : ℕ) (h : Counts) : Type 0 where
  pub ordered : Ordered s order stage
  pub counts : h ≡ counts_of s

pub fitted-all : (a : Answer) (known fits : Bool) → (fitted a known fits).code ≡ 0 → (a.code ≡ 0) × (known ≡ true) × (fits ≡ true)
unfolding fitted
fitted-all a known fits e =
    cases (eqb a.code 0)
    (λ x. cases known
    (λ k. cases fits (λ y. (eqb-true a.code 0 x, k, y)) (λ y. let z : order_unfit ≡ 0 = rw (x, k, y) at e in absurd (omega arith)))
    (λ k. let z : no_such_stage ≡ 0 = rw (x, k) at e in absurd (omega arith)))
    (λ x. let z : a.code ≡ 0 = rw x at e in absurd (eqb-false a.code 0 x z))

pub fitted-refused : (a : Answer) (known fits : Bool) → (a.code ≡ 0 → ⊥) → fitted a known fits ≡ a
unfolding fitted
fitted-refused a known fits n = rw (ne_eqb a.code 0 n)

module _ (s : List ℕ) (stage : ℕ) where
  pub ordered : (order : List ℕ) → (order_answer s order stage).code ≡ 0 → Ordered s order stage
  unfolding order_answer
  ordered order e =
      let (x, k, y) = fitted-all (book_answer s) (ltb stage (stages_in s)) (fit_pass (rules_of s stage) order) e in
      record { passes = book-passes s x; known = ltb-true stage (stages_in s) k; fit = (fit-pass (rules_of s stage) order).1 y }

  pub ordered-so : (order : List ℕ) (a : Answer) → a ≡ order_answer s order stage → a.code ≡ 0 → Ordered s order stage
  ordered-so order a e z = ordered order (rw e at z)

  pub entries_below : (order : List ℕ) → Fit (rules_of s stage) order → (j : ℕ) → j < length order → get_or order j 0 < rules_in s
  entries_below order f j h = let i = ((fit_at (rules_of s stage) order).0 f).below j h in omega (arith, i.0, count-is s stage)

-- ---- 28 and 30

-- no mark from m on and below x is yes
pub record Scanned (marks : List Bool) (m x : ℕ) : Type 0 where
  pub least : m ≤ x
  pub none : (y : ℕ) → m ≤ y → y < x → snap_of marks y ≡ false

pub scanned-more : (marks : List Bool) (m x : ℕ) → Scanned marks m x → snap_of marks x ≡ false → Scanned marks m (x + 1)
scanned-more marks m x c e =
    let i = c.least in
    record { least = omega arith; none = λ y h k. cases (eqb y x) (λ z. rw (eqb-true y x z) e) (λ z. let n = eqb-false y x z in c.none y h (omega arith)) }

pub scanned-found : (marks : List Bool) (m x : ℕ) → Scanned marks m x → x < max_marks → snap_of marks x ≡ true → true ≡ any_from m marks
unfolding any_from
scanned-found marks m x c h e = sym (some_of max_marks (λ y. leb m y && snap_of marks y) x h (rw (le-leb m x c.least, e)))

pub scanned-none : (marks : List Bool) (m x : ℕ) → Scanned marks m x → max_marks ≤ x → false ≡ any_from m marks
unfolding any_from
scanned-none marks m x c h =
    sym (some-none max_marks (λ y. leb m y && snap_of marks y)
    (λ y k. cases (leb m y) (λ e. rw (e, c.none y (leb-true m y e) (omega arith))) (λ e. rw e)))
