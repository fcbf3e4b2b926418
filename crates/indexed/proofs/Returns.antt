-- A law for each return of the functions that compare an index, and judge a snapshot and a stage. Assumes nothing.
use Rattle.std.specs.Prelude.{◌≡◌, Bool, true, false, List, ℕ, ◌≤◌, ◌<◌, length, ltb}
use Rattle.std.proofs.Common.{sym, ap, ◌∙◌, arith}
use borrow.Author.Tests.{ne_eqb, lt-ltb, le-ltb, ltb-true}
use Rattle.paper.specs.Limits.{max_events, mark_above, no_such_stage, stage_closed, index_unfit}
use Rattle.paper.specs.Answers.{granted, refusal}
use Rattle.paper.specs.Refusals.{answer_of}
use Rattle.paper.specs.declared.Answer.{Answer}
use Rattle.paper.specs.declared.Refusal.{Refusal}
use Rattle.general.specs.Cases.{cases}
use Rattle.general.specs.Comparing.{same_bytes, same-so}
use Rattle.book.specs.Text.{snap_of}
use Rattle.book.specs.Image.{stages_in, marks_in, book_of}
use Rattle.book.specs.Judging.{counts_of}
use Rattle.book.specs.WellRead.{Opened}
use Rattle.book.specs.declared.Counts.{Counts}
use Rattle.book.specs.declared.Snapshot.{Snapshot}
use Rattle.judge.specs.Checking.{book_answer, PassesWith, passes-granted}
use Rattle.judge.proofs.Returns.{some-code}
use Rattle.runner.specs.Completing.{any_from, through}
use Rattle.index.specs.Index.{order_of, index_image, NoLoops}
use Rattle.index_builder.specs.Building.{index_of}
use Rattle.indexed.specs.Indexed.{index_answer, IndexedWith, open_answer, marks_answer, indexed_answer, completing_indexed}
use Rattle.indexed.specs.IndexedTable.{looked-count}

-- ---- 20 to 26 and 34

module _ (s index : List ℕ) where
  pub book-stops : (r : Refusal) → answer_of r ≡ book_answer s → answer_of r ≡ index_answer s index
  unfolding index_answer
  book-stops r e = rw (← e, ne_eqb (answer_of r).code 0 (some-code r))

  module _ (h : Counts) (p : PassesWith s h) (same : Bool) (t : same ≡ same_bytes index (index_of s)) where
    pub index-fits : same ≡ true → granted ≡ index_answer s index
    unfolding index_answer
    index-fits x = sym (rw (passes-granted s p.passes, ← t, x))

    pub index-differs : same ≡ false → refusal index_unfit ≡ index_answer s index
    unfolding index_answer
    index-differs x = sym (rw (passes-granted s p.passes, ← t, x))

    pub indexed-with : same ≡ true → IndexedWith s index h
    indexed-with x = record { book = p; same = same-so index (index_of s) (sym t ∙ x) }

-- ---- 28, 29 and 30

module _ (s : List ℕ) (marks : List Bool) (stage : ℕ) where
  module _ (stages : ℕ) (many : stages ≡ stages_in s) where
    pub open-nowhere : stages ≤ stage → refusal no_such_stage ≡ open_answer s marks stage
    unfolding open_answer
    open-nowhere l = rw (← many, le-ltb stage stages l)

    pub open-closed : stage < stages → snap_of marks stage ≡ false → refusal stage_closed ≡ open_answer s marks stage
    unfolding open_answer
    open-closed l n = rw (← many, lt-ltb stage stages l, n)

    pub open-granted : stage < stages → snap_of marks stage ≡ true → granted ≡ open_answer s marks stage
    unfolding open_answer
    open-granted l n = rw (← many, lt-ltb stage stages l, n)

  module _ (h : Counts) (c : h ≡ counts_of s) (b : Bool) (e : b ≡ any_from h.marks marks) where
    above : b ≡ any_from (marks_in s) marks
    above = e ∙ ap (λ (x : Counts). any_from x.marks marks) c

    pub marks-above : b ≡ true → refusal mark_above ≡ marks_answer s marks stage
    unfolding marks_answer
    marks-above t = rw (← above, t)

    pub marks-belong : (a : Answer) → b ≡ false → ((s : List ℕ) → h.stages ≡ stages_in s → a ≡ open_answer s marks stage) → a ≡ marks_answer s marks stage
    unfolding marks_answer
    marks-belong a t q = q s (ap (λ (x : Counts). x.stages) c) ∙ rw (← above, t)

pub marks-known : (s : List ℕ) (marks : List Bool) (stage : ℕ) → granted ≡ marks_answer s marks stage → stage < stages_in s
unfolding marks_answer open_answer
marks-known s marks stage e =
    let y : (marks_answer s marks stage).code ≡ 0 = sym (ap (λ (x : Answer). x.code) e) in
    cases (any_from (marks_in s) marks) (λ x. let w : mark_above ≡ 0 = rw x at y in absurd (omega arith))
    (λ x. cases (ltb stage (stages_in s)) (λ t. ltb-true stage (stages_in s) t) (λ t. let w : no_such_stage ≡ 0 = rw (x, t) at y in absurd (omega arith)))

-- ---- the whole completion

module _ (s index : List ℕ) (h : Counts) (p : IndexedWith s index h) where
  pub stages-few : h.stages ≤ max_events
  stages-few = rw p.book.counts p.book.passes.formed.headed.counted.stages

  -- what the walk asks of a stage that is open
  pub walk-asks : (stage : ℕ) → stage < h.stages → (Opened s h) × (NoLoops (book_of s)) × (index ≡ index_image (book_of s)) × (stage < h.stages)
  walk-asks stage l = (record { formed = p.book.passes.formed; counts = p.book.counts }, p.book.passes.acyclic, p.same, l)

  module _ (marks : List Bool) (stage : ℕ) where
    pub known-stage : granted ≡ marks_answer s marks stage → stage < h.stages
    known-stage e = rw p.book.counts (marks-known s marks stage e)

    pub marks-judged : granted ≡ index_answer s index → (a : Answer) → ((s : List ℕ) → h ≡ counts_of s → a ≡ marks_answer s marks stage) → a ≡ indexed_answer s index marks stage
    unfolding indexed_answer
    marks-judged g a f = f s p.book.counts ∙ rw (← g)

pub index-stops : (s index : List ℕ) (marks : List Bool) (stage : ℕ) (r : Refusal) → answer_of r ≡ index_answer s index → answer_of r ≡ indexed_answer s index marks stage
unfolding indexed_answer
index-stops s index marks stage r e = rw (← e, ne_eqb (answer_of r).code 0 (some-code r))

module _ (s index : List ℕ) (snapshot : Snapshot) (stage : ℕ) where
  pub refused-so : (r : Refusal) → answer_of r ≡ indexed_answer s index snapshot.marks stage
      → record { answer = answer_of r; snapshot = snapshot; evaluated = 0 } ≡ completing_indexed s index snapshot stage
  unfolding completing_indexed
  refused-so r e = rw (← e, ne_eqb (answer_of r).code 0 (some-code r))

  pub completed-so : granted ≡ indexed_answer s index snapshot.marks stage → (after : Snapshot) (looked : ℕ)
      → after.marks ≡ through s snapshot.marks stage snapshot.marks (order_of (book_of s) stage)
      → looked ≡ length (order_of (book_of s) stage) → record { answer = granted; snapshot = after; evaluated = looked } ≡ completing_indexed s index snapshot stage
  unfolding completing_indexed
  completed-so e after looked g l =
      let y : after ≡ record { marks = through s snapshot.marks stage snapshot.marks (order_of (book_of s) stage) } = ap (λ (m : List Bool). record { marks = m }) g in
      rw (← e, ← y, looked-count s snapshot.marks stage, ← l)
