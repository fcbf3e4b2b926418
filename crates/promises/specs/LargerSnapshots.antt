-- Request (xiv), of snapshots: what completing a stage gave with snapshots of 256 marks, and that a snapshot of then, followed by 768 times no, is answered and completed
-- as it was, the marks behind its 256 left no. Assumes nothing.
use Rattle.std.specs.Prelude.{ℕ, zero, suc, ◌-◌, ◌<◌, ◌≡◌, Bool, false, cond, ◌&&◌, eqb, ltb, leb, set, replicate}
use Rattle.std.proofs.Math.Path.{refl, fun_ext}
use Rattle.std.proofs.Common.{ap, inl, inr, arith}
use mathlib.Core.List.{List, [], ◌∷◌, ◌++◌}
use Rattle.std.proofs.Math.ListN.{length}
use Rattle.paper.specs.Limits.{max_marks, book_count, mark_above, stage_closed}
use Rattle.paper.specs.Answers.{granted, refusal}
use Rattle.paper.specs.declared.Answer.{Answer}
use Rattle.general.specs.Cases.{cases}
use Rattle.general.specs.Below.{some}
use Rattle.order_theory.specs.Order.{Net, Mem}
use Rattle.order_theory.specs.Settle.{Acts}
use Rattle.order_theory.specs.Pass.{fit_pass}
use Rattle.order_theory.specs.Snapshots.{step_l, run_l, length-step_l}
use Rattle.book.specs.Text.{snap_of}
use Rattle.book.specs.Image.{stages_in, marks_in}
use Rattle.book.specs.declared.Snapshot.{Snapshot}
use Rattle.rule_order.specs.Nets.{rules_of}
use Rattle.runner.specs.Completing.{fitted, any_from, through, completing}
use Rattle.runner.specs.declared.Completion.{Completion}
use Rattle.promises.specs.Larger.{marks_then, image_then, book_then}

-- ---- completing a stage, as it was: the book judged by the limits of then, and 28 of 256 marks

unfoldable pub order_then : List ℕ → List ℕ → ℕ → Answer
order_then s order stage = fitted (book_then s) (ltb stage (stages_in s)) (fit_pass (rules_of s stage) order)

unfoldable pub any_from_then : ℕ → List Bool → Bool
any_from_then M marks = some marks_then (λ m. leb M m && snap_of marks m)

unfoldable pub snapshot_then : ℕ → List Bool → ℕ → Answer
snapshot_then M marks stage = cond (any_from_then M marks) (refusal mark_above) (cond (snap_of marks stage) granted (refusal stage_closed))

unfoldable pub completion_then : List ℕ → List ℕ → List Bool → ℕ → Answer
completion_then s order marks stage = cond (eqb (order_then s order stage).code 0) (snapshot_then (marks_in s) marks stage) (order_then s order stage)

unfoldable pub completing_then : List ℕ → List ℕ → Snapshot → ℕ → Completion
completing_then s order snapshot stage =
    record {
      answer = completion_then s order snapshot.marks stage;
      snapshot = cond (eqb (completion_then s order snapshot.marks stage).code 0) (record { marks = through s snapshot.marks stage snapshot.marks order }) snapshot;
    }

-- ---- a snapshot of then among those of now

abbrev pub padding : List Bool
padding = replicate (max_marks - marks_then) false

abbrev pub padded_snapshot : Snapshot → Snapshot
padded_snapshot snapshot = record { marks = snapshot.marks ++ padding }

abbrev pub padded_completion : Completion → Completion
padded_completion c = record { answer = c.answer; snapshot = padded_snapshot c.snapshot }

none-at : (k m : ℕ) → snap_of (replicate k false) m ≡ false
none-at zero m = refl
none-at (suc k) zero = refl
none-at (suc k) (suc m) = none-at k m

-- it says what it said: past its end every mark is no
pub padded-at : (k : ℕ) (marks : List Bool) (m : ℕ) → snap_of (marks ++ replicate k false) m ≡ snap_of marks m
padded-at k [] m = none-at k m
padded-at k (b ∷ marks) zero = refl
padded-at k (b ∷ marks) (suc m) = padded-at k marks m

pub padded-says : (k : ℕ) (marks : List Bool) → snap_of (marks ++ replicate k false) ≡ snap_of marks
padded-says k marks = fun_ext (padded-at k marks)

-- ---- the run

set-padded : (marks : List Bool) (t : ℕ) (b : Bool) (more : List Bool) → t < length marks → set (marks ++ more) t b ≡ set marks t b ++ more
set-padded [] t b more h = absurd (omega arith)
set-padded (a ∷ marks) zero b more h = refl
set-padded (a ∷ marks) (suc t) b more h = ap (λ (l : List Bool). a ∷ l) (set-padded marks t b more (omega arith))

module _ (N : Net) (A : Acts N) (k : ℕ) where
  step-padded : (marks : List Bool) (r : ℕ) → N.target r < length marks → step_l N A (marks ++ replicate k false) r ≡ step_l N A marks r ++ replicate k false
  unfolding step_l
  step-padded marks r h =
      rw (padded-says k marks) (cases (A.fires (snap_of marks) r) (λ t. rw t (set-padded marks (N.target r) (A.effect r) (replicate k false) h)) (λ t. rw t))

  pub run-padded : (order : List ℕ) (marks : List Bool) → ((q : ℕ) → Mem q order → N.target q < length marks)
      → run_l N A (marks ++ replicate k false) order ≡ run_l N A marks order ++ replicate k false
  unfolding run_l
  run-padded [] marks h = refl
  run-padded (r ∷ order) marks h =
      rw (step-padded marks r (h r (inl refl))) (run-padded order (step_l N A marks r) (λ q i. rw (length-step_l N A marks r) (h q (inr i))))

pub record LargerSnapshots : Type 0 where
  -- 28 looks at 1,024 marks now, and says of a padded snapshot what it said
  pub above : (M : ℕ) (marks : List Bool) → length marks ≡ marks_then → any_from M (marks ++ padding) ≡ any_from_then M marks
  -- of a book that was not refused for its counts, every completion gives the answer that it gave, and the snapshot that it gave with 768 times no behind it
  pub complete : (s : List ℕ) → ((image_then s).code ≡ book_count → ⊥) → (order : List ℕ) (snapshot : Snapshot) (stage : ℕ) → length snapshot.marks ≡ marks_then
      → completing s order (padded_snapshot snapshot) stage ≡ padded_completion (completing_then s order snapshot stage)
