-- Request (xiv), of snapshots: what completing a stage gave with snapshots of 256 marks, and that a snapshot of then, followed by 768 times no, is answered and completed
-- as it was, the marks behind its 256 left no. Assumes nothing.
use Rattle.std.specs.Prelude.{ℕ, zero, suc, ◌+◌, ◌-◌, ◌≤◌, ◌≡◌, Bool, true, false, ◌&&◌, eqb, leb}
use Rattle.std.proofs.Math.Path.{refl}
use Rattle.std.proofs.Common.{ap, ◌∙◌, arith, add-zero, add-suc, eqb-true, le-ltb, leb-true}
use Rattle.std.proofs.Math.Bool.{or-false}
use mathlib.Core.List.{List, [], ◌∷◌, ◌++◌}
use Rattle.std.proofs.Math.ListN.{length, length-append}
use Rattle.paper.specs.Limits.{max_marks, book_header, book_count}
use Rattle.paper.specs.declared.Answer.{Answer}
use Rattle.general.specs.Cases.{cases, both}
use Rattle.general.specs.Below.{some, some_same}
use Rattle.chart.specs.Larger.{events_then}
use Rattle.book.specs.Text.{snap_of}
use Rattle.book.specs.Image.{marks_in, book_of}
use Rattle.book.specs.Judging.{counts_of}
use Rattle.book.specs.declared.Counts.{Counts}
use Rattle.book.specs.declared.Snapshot.{Snapshot}
use Rattle.rule_order.specs.Rules.{acts_of}
use Rattle.rule_order.specs.Nets.{rules_of}
use Rattle.judge.specs.Checking.{marks-many, targets-in}
use Rattle.runner.specs.Completing.{order_answer, any_from, snapshot_answer, completion_answer, through, completing}
use Rattle.runner.specs.Table.{Passes}
use Rattle.runner.specs.Completion.{granted-only}
use Rattle.promises.specs.Larger.{marks_then, rules_then, conditions_then, words_then, counts_then, image_then, book-still}
use Rattle.promises.specs.LargerSnapshots.{order_then, any_from_then, snapshot_then, completion_then, completing_then, padding, padded_snapshot, padded_completion, padded-at, padded-says, run-padded, LargerSnapshots}

-- ---- 28

past_end : (marks : List Bool) (m : ℕ) → length marks ≤ m → snap_of marks m ≡ false
past_end [] m h = refl
past_end (b ∷ marks) zero h = absurd (omega arith)
past_end (b ∷ marks) (suc m) h = past_end marks m (omega arith)

some-no-more : (f : ℕ → Bool) (n k : ℕ) → ((p : ℕ) → n ≤ p → f p ≡ false) → some (n + k) f ≡ some n f
unfolding some
some-no-more f n zero h = rw add-zero
some-no-more f n (suc k) h = rw (add-suc, some-no-more f n k h, h (n + k) (omega arith)) (or-false (some n f))

pub above_same : (M : ℕ) (marks : List Bool) → length marks ≡ marks_then → any_from M (marks ++ padding) ≡ any_from_then M marks
unfolding any_from any_from_then
above_same M marks l =
    some_same max_marks (λ m. leb M m && snap_of (marks ++ padding) m) (λ m. leb M m && snap_of marks m) (λ m h. ap (λ (b : Bool). leb M m && b) (padded-at (max_marks - marks_then) marks m))
    ∙ some-no-more (λ m. leb M m && snap_of marks m) marks_then (max_marks - marks_then)
    (λ m h. cases (leb M m) (λ t. rw (t, past_end marks m (omega arith))) (λ t. rw t))

-- ---- the whole

few-marks : (h : Counts) → counts_then h ≡ true → h.marks ≤ marks_then
unfolding counts_then
few-marks h t =
    let f = both _ (leb h.words words_then) t in
    let e = both _ (leb h.conditions conditions_then) f.0 in
    let d = both _ (leb h.rules rules_then) e.0 in
    let c = both (leb h.stages events_then && leb h.stages h.marks) (leb h.marks marks_then) d.0 in
    leb-true h.marks marks_then c.1

module _ (s : List ℕ) (then : (image_then s).code ≡ book_count → ⊥) where
  marks_then_lem : Passes s → marks_in s ≤ marks_then
  unfolding image_then
  marks_then_lem p =
      cases (counts_then (counts_of s)) (few-marks (counts_of s)) (λ t. absurd (then (rw (le-ltb (length s) book_header p.formed.headed.long, t))))

  module _ (order : List ℕ) (snapshot : Snapshot) (stage : ℕ) (whole : length snapshot.marks ≡ marks_then) where
    answer-same : completion_answer s order (snapshot.marks ++ padding) stage ≡ completion_then s order snapshot.marks stage
    unfolding completion_answer completion_then order_answer order_then snapshot_answer snapshot_then
    answer-same = rw (book-still s then, above_same (marks_in s) snapshot.marks whole, padded-at (max_marks - marks_then) snapshot.marks stage)

    through_same : (completion_then s order snapshot.marks stage).code ≡ 0
        → through s (snapshot.marks ++ padding) stage (snapshot.marks ++ padding) order ≡ through s snapshot.marks stage snapshot.marks order ++ padding
    unfolding through completing
    through_same z =
        let l : length (snapshot.marks ++ padding) ≡ max_marks = length-append snapshot.marks padding ∙ rw whole in
        let (p, f, o) = granted-only s order (padded_snapshot snapshot) stage l (ap (λ (a : Answer). a.code) answer-same ∙ z) in
        rw (padded-says (max_marks - marks_then) snapshot.marks)
        (run-padded (rules_of s stage) (acts_of (book_of s) (snap_of snapshot.marks) stage) (max_marks - marks_then) order snapshot.marks
        (λ q i. let t = targets-in s p.formed stage q (f.below q i) in omega (arith, t, marks-many s, marks_then_lem p, whole)))

    pub completed-still : completing s order (padded_snapshot snapshot) stage ≡ padded_completion (completing_then s order snapshot stage)
    unfolding completing completing_then
    completed-still =
        cases (eqb (completion_then s order snapshot.marks stage).code 0)
        (λ t. rw (answer-same, t, through_same (eqb-true (completion_then s order snapshot.marks stage).code 0 t)))
        (λ t. rw (answer-same, t))

pub larger-snapshots : LargerSnapshots
larger-snapshots = record { above = above_same; complete = completed-still }
