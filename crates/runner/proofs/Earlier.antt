-- Laws of earlier proofs, which stood in specs/: nothing cites them now, and they stand. Assumes nothing.
use Rattle.std.specs.Prelude.{◌≡◌, Bool, true, false, not, ℕ}
use Rattle.std.proofs.Common.{◌∙◌}
use Rattle.std.proofs.Math.Path.{ap}
use mathlib.Core.List.{List}
use borrow.Author.Tests.{eq-eqb, ne_eqb, not-true, not-false}
use Rattle.paper.specs.Limits.{mark_above, stage_closed}
use Rattle.paper.specs.Answers.{granted, refusal}
use Rattle.paper.specs.declared.Answer.{Answer}
use Rattle.book.specs.Text.{snap_of}
use Rattle.book.specs.Image.{marks_in}
use Rattle.book.specs.declared.Snapshot.{Snapshot}
use Rattle.runner.specs.Completing.{order_answer, any_from, snapshot_answer, completion_answer, through, completing}

-- ---- the snapshot

module _ (M stage : ℕ) (marks : List Bool) where
  pub above-answer : (b : Bool) (a : Answer) → b ≡ any_from M marks → b ≡ true → a ≡ refusal mark_above → a ≡ snapshot_answer M marks stage
  unfolding snapshot_answer
  above-answer b a e t q = q ∙ rw (← e, t)

  module _ (b : Bool) (e : b ≡ any_from M marks) (t : b ≡ false) where
    pub closed-answer : (a : Answer) → not (snap_of marks stage) ≡ true → a ≡ refusal stage_closed → a ≡ snapshot_answer M marks stage
    unfolding snapshot_answer
    closed-answer a n q = q ∙ rw (← e, t, not-true (snap_of marks stage) n)

    pub open-answer : (a : Answer) → not (snap_of marks stage) ≡ false → a ≡ granted → a ≡ snapshot_answer M marks stage
    unfolding snapshot_answer
    open-answer a n q = q ∙ rw (← e, t, not-false (snap_of marks stage) n)

-- ---- the whole call

module _ (s order : List ℕ) (snapshot : Snapshot) (stage : ℕ) where
  refusing : (a : Answer) → a ≡ completion_answer s order snapshot.marks stage → (a.code ≡ 0 → ⊥) → record { answer = a; snapshot = snapshot } ≡ completing s order snapshot stage
  unfolding completing
  refusing a e n = rw (← e, ne_eqb a.code 0 n)

  pub order-refused : (a : Answer) → a ≡ order_answer s order stage → (a.code ≡ 0 → ⊥) → record { answer = a; snapshot = snapshot } ≡ completing s order snapshot stage
  unfolding completion_answer
  order-refused a e n = refusing a (rw (← e, ne_eqb a.code 0 n)) n

  module _ (o : Answer) (e : o ≡ order_answer s order stage) (z : o.code ≡ 0) (M : ℕ) (q : M ≡ marks_in s) (a : Answer) (f : a ≡ snapshot_answer M snapshot.marks stage) where
    then-answer : a ≡ completion_answer s order snapshot.marks stage
    unfolding completion_answer
    then-answer = f ∙ rw (← e, eq-eqb o.code 0 z, q)

    pub snapshot-refused : (a.code ≡ 0 → ⊥) → record { answer = a; snapshot = snapshot } ≡ completing s order snapshot stage
    snapshot-refused n = refusing a then-answer n

    pub completed-so : (after : Snapshot) → a.code ≡ 0 → after.marks ≡ through s snapshot.marks stage snapshot.marks order
        → record { answer = a; snapshot = after } ≡ completing s order snapshot stage
    unfolding completing
    completed-so after n g =
        let y : after ≡ record { marks = through s snapshot.marks stage snapshot.marks order } = ap (λ (m : List Bool). record { marks = m }) g in
        rw (← then-answer, eq-eqb a.code 0 n, ← y)
