-- What completing a stage through the index gives, in the request's order of refusals: the answer, the snapshot, and how many rules were evaluated. Assumes nothing.
use Rattle.std.specs.Prelude.{◌≡◌, Bool, cond, List, ℕ, eqb, ltb}
use Rattle.paper.specs.Limits.{mark_above, no_such_stage, stage_closed, index_unfit}
use Rattle.paper.specs.Answers.{granted, refusal}
use Rattle.paper.specs.declared.Answer.{Answer}
use Rattle.book.specs.Text.{snap_of}
use Rattle.book.specs.Image.{stages_in, marks_in, book_of}
use Rattle.book.specs.declared.Counts.{Counts}
use Rattle.book.specs.declared.Snapshot.{Snapshot}
use Rattle.judge.specs.Checking.{book_answer, PassesWith}
use Rattle.runner.specs.Completing.{any_from, through}
use Rattle.runner.specs.Walks.{looks, goes-run}
use Rattle.runner.specs.declared.Completion.{Completion}
use Rattle.index.specs.Index.{order_of}
use Rattle.general.specs.Comparing.{same_bytes}
use Rattle.index_builder.specs.Building.{index_of}
use Rattle.indexed.specs.declared.IndexedCompletion.{IndexedCompletion}

-- "An index is fit exactly if it is what the builder writes for this book."; "34, unfit index, after 26"
unfoldable pub index_answer : List ℕ → List ℕ → Answer
index_answer s index = cond (eqb (book_answer s).code 0) (cond (same_bytes index (index_of s)) granted (refusal index_unfit)) (book_answer s)

-- the book passes, these are its counts, and it has this index
pub record IndexedWith (s index : List ℕ) (h : Counts) : Type 0 where
  pub book : PassesWith s h
  pub same : index ≡ index_of s

-- 29 and 30
unfoldable pub open_answer : List ℕ → List Bool → ℕ → Answer
open_answer s marks stage = cond (ltb stage (stages_in s)) (cond (snap_of marks stage) granted (refusal stage_closed)) (refusal no_such_stage)

-- "and then 28, 29, 30"
unfoldable pub marks_answer : List ℕ → List Bool → ℕ → Answer
marks_answer s marks stage = cond (any_from (marks_in s) marks) (refusal mark_above) (open_answer s marks stage)

-- 20 to 26, 34, 28, 29, 30
unfoldable pub indexed_answer : List ℕ → List ℕ → List Bool → ℕ → Answer
indexed_answer s index marks stage = cond (eqb (index_answer s index).code 0) (marks_answer s marks stage) (index_answer s index)

-- request (vi): "the number of rules evaluated", "the length of the definition's own walk: one for each rule in the stage's order, fired or not"
unfoldable pub looked_at : List ℕ → List Bool → ℕ → ℕ
looked_at s marks stage = looks (book_of s) (snap_of marks) stage (goes-run (book_of s) (snap_of marks) stage (order_of (book_of s) stage) (snap_of marks))

-- the snapshot after every rule of the stage's running order had its turn; a refusal hands back the snapshot that was given. "A refused completion reports 0."
unfoldable pub completing_indexed : List ℕ → List ℕ → Snapshot → ℕ → IndexedCompletion
completing_indexed s index snapshot stage =
    record {
      answer = indexed_answer s index snapshot.marks stage;
      snapshot = cond (eqb (indexed_answer s index snapshot.marks stage).code 0)
          (record { marks = through s snapshot.marks stage snapshot.marks (order_of (book_of s) stage) }) snapshot;
      evaluated = cond (eqb (indexed_answer s index snapshot.marks stage).code 0) (looked_at s snapshot.marks stage) 0;
    }

-- its answer and snapshot, as a completion along an order gives them
abbrev pub completion_of : IndexedCompletion → Completion
completion_of r = record { answer = r.answer; snapshot = r.snapshot }
