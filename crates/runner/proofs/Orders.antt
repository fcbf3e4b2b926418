-- A law for each return of the functions that judge a book, a stage, an order and a snapshot, and complete. Assumes nothing.
use mathlib.Core.Path.{◌≡◌, sym, ap, ◌∙◌}
use mathlib.Core.Bool.{Bool, true, false}
use mathlib.Core.List.{List}
use Prim.Native.Nat.{ℕ, ◌≤◌, ◌<◌}
use native.Mathlib.Omega.{arith}
use lib.Dec.{ltb}
use lib.ListN.{length, get_or}
use borrow.Author.Tests.{ne_eqb, lt-ltb, le-ltb}
use Rattle.paper.specs.Limits.{max_marks, order_unfit, no_such_stage}
use Rattle.paper.specs.Answers.{granted, refusal}
use Rattle.paper.specs.Refusals.{answer_of}
use Rattle.paper.specs.declared.Answer.{Answer}
use Rattle.paper.specs.declared.Refusal.{Refusal}
use Rattle.order_theory.specs.Pass.{fit_pass}
use Rattle.order_theory.proofs.Pass.{fit-pass}
use Rattle.book.specs.Image.{stages_in, rules_in}
use Rattle.book.specs.declared.Counts.{Counts}
use Rattle.book.specs.declared.Snapshot.{Snapshot}
use Rattle.rule_order.specs.Nets.{rules_of}
use Rattle.judge.specs.Checking.{book_answer, PassesWith, passes-granted}
use Rattle.judge.proofs.Returns.{some-code}
use Rattle.runner.specs.Completing.{fitted, order_answer, snapshot_answer, completion_answer, through, completing}
use Rattle.runner.specs.Ordered.{OrderedWith, fitted-refused, entries_below}

module _ (s order : List ℕ) (stage : ℕ) where
  pub book-stops : (r : Refusal) → answer_of r ≡ book_answer s → answer_of r ≡ order_answer s order stage
  unfolding order_answer
  book-stops r e = rw (← e) (sym (fitted-refused (answer_of r) (ltb stage (stages_in s)) (fit_pass (rules_of s stage) order) (some-code r)))

  module _ (h : Counts) (p : PassesWith s h) where
    pub order-nowhere : h.stages ≤ stage → refusal no_such_stage ≡ order_answer s order stage
    unfolding order_answer fitted
    order-nowhere l = sym (rw (passes-granted s p.passes, le-ltb stage (stages_in s) (rw p.counts at l)))

    module _ (l : stage < h.stages) (fits : Bool) (f : fits ≡ fit_pass (rules_of s stage) order) where
      pub order-unfit : fits ≡ false → refusal order_unfit ≡ order_answer s order stage
      unfolding order_answer fitted
      order-unfit x = sym (rw (passes-granted s p.passes, lt-ltb stage (stages_in s) (rw p.counts at l), ← f, x))

      pub order-fit : fits ≡ true → granted ≡ order_answer s order stage
      unfolding order_answer fitted
      order-fit x = sym (rw (passes-granted s p.passes, lt-ltb stage (stages_in s) (rw p.counts at l), ← f, x))

      pub ordered-with : fits ≡ true → OrderedWith s order stage h
      ordered-with x =
          record {
            ordered = record { passes = p.passes; known = rw p.counts at l; fit = (fit-pass (rules_of s stage) order).1 (sym f ∙ x) };
            counts = p.counts;
          }

-- ---- the whole call

module _ (s order : List ℕ) (marks : List Bool) (stage : ℕ) where
  pub order-stops : (r : Refusal) → answer_of r ≡ order_answer s order stage → answer_of r ≡ completion_answer s order marks stage
  unfolding completion_answer
  order-stops r e = rw (← e, ne_eqb (answer_of r).code 0 (some-code r))

  module _ (h : Counts) (o : OrderedWith s order stage h) where
    pub stage_below : stage < max_marks
    stage_below = let k = o.ordered.passes.formed.headed.counted.stages in omega (arith, o.ordered.known)

    pub entries-below : (j : ℕ) → j < length order → get_or order j 0 < rules_in s
    entries-below = entries_below s stage order o.ordered.fit

    pub snapshot-judged : granted ≡ order_answer s order stage → (a : Answer) → a ≡ snapshot_answer h.marks marks stage → a ≡ completion_answer s order marks stage
    unfolding completion_answer
    snapshot-judged g a e = e ∙ rw (← g, o.counts)

module _ (s order : List ℕ) (snapshot : Snapshot) (stage : ℕ) where
  pub refused-so : (r : Refusal) → answer_of r ≡ completion_answer s order snapshot.marks stage → record { answer = answer_of r; snapshot = snapshot } ≡ completing s order snapshot stage
  unfolding completing
  refused-so r e = rw (← e, ne_eqb (answer_of r).code 0 (some-code r))

  pub completed-so : granted ≡ completion_answer s order snapshot.marks stage → (after : Snapshot)
      → after.marks ≡ through s snapshot.marks stage snapshot.marks order → record { answer = granted; snapshot = after } ≡ completing s order snapshot stage
  unfolding completing
  completed-so e after g =
      let y : after ≡ record { marks = through s snapshot.marks stage snapshot.marks order } = ap (λ (m : List Bool). record { marks = m }) g in
      rw (← e, ← y)
