-- The rows of the paper's table for a completion, in the order 20 to 26, 29, 27, 28, 30, and that the answer is given exactly as they say. Assumes nothing.
use Rattle.std.specs.Prelude.{◌≡◌, Bool, true, false, ◌&&◌, List, ℕ, ◌≤◌, ◌<◌, eqb, ltb}
use Rattle.std.proofs.Math.Path.{sym}
use Rattle.std.proofs.Common.{ap, subst, ◌∙◌}
use Rattle.std.proofs.Math.Dec.{leb}
use borrow.Author.Tests.{eqb-true, eqb-false, eq-eqb, ne_eqb, lt-ltb, le-ltb, le-leb, leb-true, ltb-true, ltb-false}
use Rattle.paper.specs.Limits.{max_marks, clash, order_unfit, mark_above, no_such_stage, stage_closed}
use Rattle.paper.specs.Answers.{granted, refusal}
use Rattle.paper.specs.declared.Answer.{Answer}
use Rattle.general.specs.Cases.{contra, cases, both, not_so}
use Rattle.general.specs.Below.{some_of, some_at, some-none}
use Rattle.order_theory.specs.Order.{Fit}
use Rattle.order_theory.specs.Pass.{fit_pass}
use Rattle.order_theory.proofs.Pass.{fit-pass}
use Rattle.book.specs.Text.{snap_of}
use Rattle.book.specs.Image.{stages_in, marks_in, rules_in}
use Rattle.rule_order.specs.Nets.{rules_of}
use Rattle.judge.specs.Checking.{book_answer, BookPasses, Checked, passes-granted, book-is}
use Rattle.judge.proofs.Checking.{book-passes, is-book}
use Rattle.runner.specs.Completing.{fitted, order_answer, any_from, snapshot_answer, completion_answer}
use Rattle.runner.specs.Ordered.{fitted-refused}

-- the check passes the book, for a stage that it has and given room: nothing from 20 to 26 holds
abbrev pub Passes : List ℕ → Type 0
Passes s = BookPasses s

-- the snapshot's marks belong to the book: none at or above M is yes
abbrev pub Belongs : List ℕ → List Bool → Type 0
Belongs s marks = (m : ℕ) → marks_in s ≤ m → m < max_marks → snap_of marks m ≡ false

pub data Answered (s order : List ℕ) (marks : List Bool) (stage : ℕ) : Answer → Type 0 where
  -- 20 to 26, of the book alone
  refused : (a : Answer) → Checked s stage (rules_in s) a → (a.code ≡ 0 → ⊥) → a.code ≤ clash → Answered s order marks stage a
  nowhere : Passes s → stages_in s ≤ stage → Answered s order marks stage (refusal no_such_stage)
  unfit : Passes s → stage < stages_in s → (Fit (rules_of s stage) order → ⊥) → Answered s order marks stage (refusal order_unfit)
  above : Passes s → stage < stages_in s → Fit (rules_of s stage) order → (m : ℕ) → marks_in s ≤ m → m < max_marks → snap_of marks m ≡ true → Answered s order marks stage (refusal mark_above)
  closed : Passes s → stage < stages_in s → Fit (rules_of s stage) order → Belongs s marks → snap_of marks stage ≡ false → Answered s order marks stage (refusal stage_closed)
  completed : Passes s → stage < stages_in s → Fit (rules_of s stage) order → Belongs s marks → snap_of marks stage ≡ true → Answered s order marks stage granted

-- ---- the tests say what the propositions say

module _ (s : List ℕ) where
  pub passes-code : Passes s → (book_answer s).code ≡ 0
  passes-code p = ap (λ (a : Answer). a.code) (passes-granted s p)

  pub belongs-none : (marks : List Bool) → Belongs s marks → any_from (marks_in s) marks ≡ false
  unfolding any_from
  belongs-none marks b =
      some-none max_marks (λ m. leb (marks_in s) m && snap_of marks m) (λ m h. cases (leb (marks_in s) m) (λ e. rw (e, b m (leb-true (marks_in s) m e) h)) (λ e. rw e))

  pub none-belongs : (marks : List Bool) → any_from (marks_in s) marks ≡ false → Belongs s marks
  unfolding any_from
  none-belongs marks e m l h = not_so (λ x. contra (some_of max_marks (λ y. leb (marks_in s) y && snap_of marks y) m h (rw (le-leb (marks_in s) m l, x))) e)

  pub some-above : (marks : List Bool) → any_from (marks_in s) marks ≡ true → (m : ℕ) × (marks_in s ≤ m) × (m < max_marks) × (snap_of marks m ≡ true)
  unfolding any_from
  some-above marks e =
      let (m, h, x) = some_at max_marks (λ m. leb (marks_in s) m && snap_of marks m) e in
      let (y, z) = both (leb (marks_in s) m) (snap_of marks m) x in
      (m, leb-true (marks_in s) m y, h, z)

  pub above-some : (marks : List Bool) (m : ℕ) → marks_in s ≤ m → m < max_marks → snap_of marks m ≡ true → any_from (marks_in s) marks ≡ true
  unfolding any_from
  above-some marks m l h x = some_of max_marks (λ y. leb (marks_in s) y && snap_of marks y) m h (rw (le-leb (marks_in s) m l, x))

module _ (s order : List ℕ) (stage : ℕ) where
  order-nowhere : Passes s → stages_in s ≤ stage → order_answer s order stage ≡ refusal no_such_stage
  unfolding order_answer fitted
  order-nowhere p h = rw (eq-eqb (book_answer s).code 0 (passes-code s p), le-ltb stage (stages_in s) h)

  module _ (p : Passes s) (h : stage < stages_in s) where
    -- a fit order of a stage of a book that the check passes
    pub order-granted : Fit (rules_of s stage) order → order_answer s order stage ≡ granted
    unfolding order_answer fitted
    order-granted f = rw (eq-eqb (book_answer s).code 0 (passes-code s p), lt-ltb stage (stages_in s) h, (fit-pass (rules_of s stage) order).0 f)

    order-unfit : (Fit (rules_of s stage) order → ⊥) → order_answer s order stage ≡ refusal order_unfit
    unfolding order_answer fitted
    order-unfit n = rw (eq-eqb (book_answer s).code 0 (passes-code s p), lt-ltb stage (stages_in s) h, not_so (λ e. n ((fit-pass (rules_of s stage) order).1 e)))

  module _ (marks : List Bool) where
    then : Passes s → stage < stages_in s → Fit (rules_of s stage) order → completion_answer s order marks stage ≡ snapshot_answer (marks_in s) marks stage
    unfolding completion_answer
    then p h f = rw (order-granted p h f)

    -- at most one row holds
    pub answered-is : (a : Answer) → Answered s order marks stage a → a ≡ completion_answer s order marks stage
    unfolding completion_answer snapshot_answer order_answer
    answered-is a (refused b c n l) =
        let z : book_answer s ≡ a = book-is s stage (rules_in s) a c n l in
        let y : fitted (book_answer s) (ltb stage (stages_in s)) (fit_pass (rules_of s stage) order) ≡ a = rw z (fitted-refused a (ltb stage (stages_in s)) (fit_pass (rules_of s stage) order) n) in
        rw (y, ne_eqb a.code 0 n)
    answered-is a (nowhere p h) = rw (order-nowhere p h)
    answered-is a (unfit p h n) = rw (order-unfit p h n)
    answered-is a (above p h f m l i x) = sym (then p h f ∙ rw (above-some s marks m l i x))
    answered-is a (closed p h f b x) = sym (then p h f ∙ rw (belongs-none s marks b, x))
    answered-is a (completed p h f b x) = sym (then p h f ∙ rw (belongs-none s marks b, x))

    -- some row holds
    row-fit : Passes s → stage < stages_in s → Fit (rules_of s stage) order → (a : Answer) × Answered s order marks stage a
    row-fit p h f =
        cases (any_from (marks_in s) marks)
        (λ u. let (m, l, i, x) = some-above s marks u in (refusal mark_above, above p h f m l i x))
        (λ u. let b : Belongs s marks = none-belongs s marks u in
        cases (snap_of marks stage) (λ x. (granted, completed p h f b x)) (λ x. (refusal stage_closed, closed p h f b x)))

    row-passing : Passes s → (a : Answer) × Answered s order marks stage a
    row-passing p =
        cases (ltb stage (stages_in s))
        (λ v. let h : stage < stages_in s = ltb-true stage (stages_in s) v in
        cases (fit_pass (rules_of s stage) order) (λ t. row-fit p h ((fit-pass (rules_of s stage) order).1 t))
        (λ t. (refusal order_unfit, unfit p h (λ f. contra ((fit-pass (rules_of s stage) order).0 f) t))))
        (λ v. (refusal no_such_stage, nowhere p (ltb-false stage (stages_in s) v)))

    row : (a : Answer) × Answered s order marks stage a
    row =
        cases (eqb (book_answer s).code 0) (λ e. row-passing (book-passes s (eqb-true (book_answer s).code 0 e)))
        (λ e. let n = eqb-false (book_answer s).code 0 e in let (c, l) = is-book s stage (rules_in s) n in (book_answer s, refused (book_answer s) c n l))

    -- the answer's row holds: with `answered-is`, every answer of a completion is given exactly as the table says
    pub answered : Answered s order marks stage (completion_answer s order marks stage)
    answered = let t = row in subst (λ (a : Answer). Answered s order marks stage a) (answered-is t.0 t.1) t.1
