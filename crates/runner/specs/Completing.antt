-- What completing a stage gives, in the paper's order of refusals: the answer, and the snapshot. Assumes nothing.
use Rattle.std.specs.Prelude.{Bool, cond, ◌&&◌, List, ℕ, eqb, ltb, leb}
use Rattle.paper.specs.Limits.{max_marks, order_unfit, mark_above, no_such_stage, stage_closed}
use Rattle.paper.specs.Answers.{granted, refusal}
use Rattle.paper.specs.declared.Answer.{Answer}
use Rattle.general.specs.Below.{some}
use Rattle.order_theory.specs.Pass.{fit_pass}
use Rattle.order_theory.specs.Snapshots.{step_l, run_l}
use Rattle.book.specs.Text.{snap_of}
use Rattle.book.specs.Image.{stages_in, marks_in, book_of}
use Rattle.book.specs.declared.Snapshot.{Snapshot}
use Rattle.rule_order.specs.Rules.{acts_of}
use Rattle.rule_order.specs.Nets.{rules_of}
use Rattle.judge.specs.Checking.{book_answer}
use Rattle.runner.specs.declared.Completion.{Completion}

-- ---- the answer

-- 29 and 27, of an answer that the check gives a book: "in a completion 29 now comes before 27"
unfoldable pub fitted : Answer → Bool → Bool → Answer
fitted a known fits = cond (eqb a.code 0) (cond known (cond fits granted (refusal order_unfit)) (refusal no_such_stage)) a

-- 20 to 26, 29 and 27
unfoldable pub order_answer : List ℕ → List ℕ → ℕ → Answer
order_answer s order stage = fitted (book_answer s) (ltb stage (stages_in s)) (fit_pass (rules_of s stage) order)

-- some mark at or above M is yes
unfoldable pub any_from : ℕ → List Bool → Bool
any_from M marks = some max_marks (λ m. leb M m && snap_of marks m)

-- 28 and 30, of M marks
unfoldable pub snapshot_answer : ℕ → List Bool → ℕ → Answer
snapshot_answer M marks stage = cond (any_from M marks) (refusal mark_above) (cond (snap_of marks stage) granted (refusal stage_closed))

-- "Completing gives 20 to 30.": 20 to 26, 29, 27, 28, 30
unfoldable pub completion_answer : List ℕ → List ℕ → List Bool → ℕ → Answer
completion_answer s order marks stage = cond (eqb (order_answer s order stage).code 0) (snapshot_answer (marks_in s) marks stage) (order_answer s order stage)

-- ---- the snapshot

-- one rule's turn in the marks as they stand: where it fires, its target is set or cleared
abbrev pub turned : List ℕ → List Bool → ℕ → List Bool → ℕ → List Bool
turned s start stage marks r = step_l (rules_of s stage) (acts_of (book_of s) (snap_of start) stage) marks r

-- "Completing an open stage goes through a given order. A rule fires if its trigger holds and its condition holds in the snapshot as it now
-- stands. A firing rule sets or clears its target."
unfoldable pub through : List ℕ → List Bool → ℕ → List Bool → List ℕ → List Bool
through s start stage marks order = run_l (rules_of s stage) (acts_of (book_of s) (snap_of start) stage) marks order

-- "A refusal hands back the snapshot it was given."
unfoldable pub completing : List ℕ → List ℕ → Snapshot → ℕ → Completion
completing s order snapshot stage =
    record {
      answer = completion_answer s order snapshot.marks stage;
      snapshot = cond (eqb (completion_answer s order snapshot.marks stage).code 0) (record { marks = through s snapshot.marks stage snapshot.marks order }) snapshot;
    }
