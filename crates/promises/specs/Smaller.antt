-- Request (xi): "From the start marking, over every sequence of completions, stages and kept marks are those of the full book, and the finished test is the same with dropped
-- marks read as yes." Stated of what the calls give: derive and its smaller book, matching, complete, and the chart's finished test. Assumes nothing.
use Rattle.std.specs.Prelude.{ℕ, ◌*◌, ◌≤◌, ◌<◌, ◌≡◌, Bool, true, cond, ◌||◌, List, [], ◌∷◌, eqb, ltb, length, get_or}
use Rattle.std.proofs.Math.Path.{sym, ap, fun_ext}
use Rattle.std.proofs.Common.{subst, ◌∙◌, arith}
use Rattle.std.proofs.Math.Bool.{false, not}
use Rattle.std.proofs.Math.ListN.{get_or-eq_default}
use borrow.Author.Tests.{ne_eqb, ltb-true, ltb-false}
use Rattle.paper.specs.Limits.{max_events, max_marks, no_mark, no_such_stage, stage_closed}
use Rattle.paper.specs.Answers.{granted, refusal}
use Rattle.paper.specs.declared.Answer.{Answer}
use Rattle.general.specs.Cases.{cases}
use Rattle.general.specs.Below.{every}
use Rattle.general.specs.Lists.{each, length-each, get_or-each}
use Rattle.flat_chart.specs.Chart.{roles_of, Fit}
use Rattle.graph.specs.Fitness.{FitMarking}
use Rattle.flat_chart.specs.Roles.{Permits}
use Rattle.graph.specs.Steps.{after, executing, finishing}
use Rattle.graph.specs.Execution.{is_done, granted-enabled, after-executed, executes-only, refused-kept, after-fit}
use Rattle.flat_chart.specs.Flat.{FlatChart}
use Rattle.graph.specs.Flat.{Marking, Step}
use Rattle.book.specs.Text.{Snap, snap_of}
use Rattle.book.specs.Book.{Book}
use Rattle.book.specs.Image.{book_of, stages_in, marks_in}
use Rattle.book.specs.ImageOf.{image_of, book-of-image}
use Rattle.book.specs.declared.Snapshot.{Snapshot}
use Rattle.order_theory.specs.Order as order
use Rattle.order_theory.specs.Settle.{Settled}
use Rattle.order_theory.specs.Snapshots.{at_same}
use Rattle.rule_order.specs.Rules.{net_of, acts_of}
use Rattle.rule_order.specs.Nets.{rules_of}
use Rattle.derived.specs.Derived.{included_mark, answered_mark, derived_book}
use Rattle.deriver.specs.Deriving.{derived_image}
use Rattle.deriver.specs.Matching.{matching_marks, matching_of, mark_of, marks-at}
use Rattle.smaller.specs.Staying.{stays, new_mark, smaller_marks, mark_table}
use Rattle.smaller.specs.Numbering.{marks-fewer}
use Rattle.smaller.specs.Smaller.{smaller_book}
use Rattle.smaller_deriver.specs.Calling.{smaller_image}
use Rattle.runner.specs.Table.{Passes, Belongs, nowhere, closed, completed, answered-is}
use Rattle.runner.specs.Completing.{completing}
use Rattle.runner.specs.declared.Completion.{Completion}
use Rattle.runner.specs.Completion.{Open, completes, completed-is, refusal-hands-back}
use Rattle.agreement.specs.Matching.{match-past}
use Rattle.agreement.specs.Settling.{derived-settled}
use Rattle.smaller_agreement.specs.Through.{through, through-past, Through, Quiet, quiet-after}
use Rattle.smaller_agreement.proofs.Through.{through-new, through-stage, through-one}
use Rattle.smaller_agreement.specs.Passing.{smaller-passes}
use Rattle.smaller_agreement.proofs.Settling.{smaller-settled}
use Rattle.promises.specs.Matching.{matched, marks-whole}
use Rattle.promises.specs.Demand2 as demand2

abbrev snapshot_of : List Bool → Snapshot
snapshot_of marks = record { marks = marks }

-- ---- completing a book from marks that are F, along a fit order: the answer, and the marks

-- a stage of n stages that is open, closed, or none
abbrev answer_for : ℕ → Snap → ℕ → Answer
answer_for n F e = cond (ltb e n) (cond (F e) granted (refusal stage_closed)) (refusal no_such_stage)

module _ (b : Book) (p : Passes (image_of b)) (F : Snap) (A : List Bool) (at : (k : ℕ) → snap_of A k ≡ F k) (whole : length A ≡ max_marks) (past : (k : ℕ) → b.marks ≤ k → F k ≡ false)
    (e : ℕ) (K : List ℕ) (ok : e < b.stages → order.Fit (rules_of (image_of b) e) K) where
  says : book_of (image_of b) ≡ b
  says = book-of-image b

  stages-are : stages_in (image_of b) ≡ b.stages
  unfolding book_of
  stages-are = ap (λ (x : Book). x.stages) says

  marks-are : marks_in (image_of b) ≡ b.marks
  unfolding book_of
  marks-are = ap (λ (x : Book). x.marks) says

  belongs : Belongs (image_of b) A
  belongs k h l = at k ∙ past k (rw marks-are at h)

  answer-open : e < b.stages → F e ≡ true → (completing (image_of b) K (snapshot_of A) e).answer ≡ granted
  unfolding completing
  answer-open h y = sym (answered-is (image_of b) K e A granted (completed p (rw stages-are h) (ok h) belongs (at e ∙ y)))

  answer-closed : e < b.stages → F e ≡ false → (completing (image_of b) K (snapshot_of A) e).answer ≡ refusal stage_closed
  unfolding completing
  answer-closed h y = sym (answered-is (image_of b) K e A (refusal stage_closed) (closed p (rw stages-are h) (ok h) belongs (at e ∙ y)))

  answer-nowhere : b.stages ≤ e → (completing (image_of b) K (snapshot_of A) e).answer ≡ refusal no_such_stage
  unfolding completing
  answer-nowhere h = sym (answered-is (image_of b) K e A (refusal no_such_stage) (nowhere p (rw stages-are h)))

  answer-so : (completing (image_of b) K (snapshot_of A) e).answer ≡ answer_for b.stages F e
  answer-so =
      cases (ltb e b.stages)
      (λ t. let h : e < b.stages = ltb-true e b.stages t in cases (F e) (λ y. rw (t, y) (answer-open h y)) (λ y. rw (t, y) (answer-closed h y)))
      (λ t. rw t (answer-nowhere (ltb-false e b.stages t)))

  -- what the rules make of the start, whatever the order
  marks-so : e < b.stages → F e ≡ true → (G : Snap) (B : List Bool) → ((k : ℕ) → snap_of B k ≡ G k) → length B ≡ max_marks → Settled (net_of b e) (acts_of b F e) F G
      → (completing (image_of b) K (snapshot_of A) e).snapshot ≡ snapshot_of B
  marks-so h y G B is long settled =
      let o : Open (image_of b) (snapshot_of A) e = record { whole = whole; belongs = belongs; known = rw stages-are h; yes = at e ∙ y } in
      let q : snap_of A ≡ F = fun_ext at in
      let s : Settled (rules_of (image_of b) e) (acts_of (book_of (image_of b)) (snap_of A) e) (snap_of A) G =
      subst (λ (x : Book). Settled (net_of x e) (acts_of x (snap_of A) e) (snap_of A) G) (sym says)
      (subst (λ (S : Snap). Settled (net_of b e) (acts_of b S e) S G) (sym q) settled) in
      ap snapshot_of (at_same (completing (image_of b) K (snapshot_of A) e).snapshot.marks B ((completes (image_of b) p (snapshot_of A) e o K (ok h)).whole ∙ sym long)
      (λ k. completed-is (image_of b) p (snapshot_of A) e o K (ok h) G s k ∙ sym (is k)))

-- ---- what is stated

-- "The smaller book's start snapshot is the full one's matching snapshot through the table", here of any marking
unfoldable pub smaller_snapshot : FlatChart → Marking → Marking → Snapshot
smaller_snapshot c m now = record { marks = each max_marks (through c m (mark_of c now)) }

-- the chart's marking after a completion with this answer
abbrev pub reaching : FlatChart → Answer → Marking → ℕ → Marking
reaching c a now e = cond (eqb a.code 0) (after c now e) now

-- completions of a book one after the other, each a stage and an order
abbrev pub completed_all : List ℕ → Snapshot → List (ℕ × List ℕ) → Snapshot
completed_all book s [] = s
completed_all book s (x ∷ steps) = completed_all book (completing book x.1 s x.0).snapshot steps

-- of steps, each a stage with an order of the full book and one of the smaller: those of the full book, and those of the smaller
abbrev pub full_steps : List (ℕ × (List ℕ × List ℕ)) → List (ℕ × List ℕ)
full_steps [] = []
full_steps (x ∷ steps) = (x.0, x.1.0) ∷ full_steps steps

abbrev pub small_steps : List (ℕ × (List ℕ × List ℕ)) → List (ℕ × List ℕ)
small_steps [] = []
small_steps (x ∷ steps) = (x.0, x.1.1) ∷ small_steps steps

-- the chart's marking after them, from now and a snapshot of the full book
abbrev pub reached_all : FlatChart → Marking → Snapshot → List (ℕ × (List ℕ × List ℕ)) → Marking
reached_all c now s [] = now
reached_all c now s (x ∷ steps) =
    reached_all c (reaching c (completing (derived_image c) x.1.0 s x.0).answer now x.0) (completing (derived_image c) x.1.0 s x.0).snapshot steps

module _ (c : FlatChart) (m : Marking) where
  -- the new number of the mark with the old number k, in the table that the call hands back
  abbrev place : ℕ → ℕ
  place k = get_or (mark_table c m) k no_mark

  -- "dropped marks read as yes": the mark with the old number k, in a snapshot of the smaller book
  unfoldable pub read_as : Snapshot → ℕ → Bool
  read_as t k = cond (eqb (place k) no_mark) true (snap_of t.marks (place k))

  -- the finished test off the marks: no event is included and not answered
  unfoldable pub finished_as : Snapshot → Bool
  finished_as t = every c.count (λ e. not (read_as t (included_mark c.count e)) || read_as t (answered_mark c.count e))

  -- a snapshot s of the full book, the one that matches the chart's marking now, and t of the smaller one: "stages and kept marks are those of the full book", each at its
  -- place in the table, "and the finished test is the same"
  pub record Same (now : Marking) (s t : Snapshot) : Type 0 where
    pub marked : FitMarking c.count now
    pub matches : s ≡ (matching_of c now).snapshot
    pub stages : (e : ℕ) → e < c.count → snap_of t.marks e ≡ snap_of s.marks e
    pub kept : (k : ℕ) → stays c m k ≡ true → snap_of t.marks (place k) ≡ snap_of s.marks k
    pub finished : finished_as t ≡ (finishing c now).yes

  -- the completed stage with an order of the full book and one of the smaller: both are fit orders if it is a stage
  abbrev pub Ordered : ℕ × (List ℕ × List ℕ) → Type 0
  Ordered x = x.0 < c.count → order.Fit (rules_of (derived_image c) x.0) x.1.0 × order.Fit (rules_of (smaller_image c m) x.0) x.1.1

  -- along the steps: the same before each and after the last, and every answer alike
  abbrev pub Alongside : Marking → Snapshot → Snapshot → List (ℕ × (List ℕ × List ℕ)) → Type 0
  Alongside now s t [] = Same now s t
  Alongside now s t (x ∷ steps) =
      Same now s t
      × ((completing (derived_image c) x.1.0 s x.0).answer ≡ (completing (smaller_image c m) x.1.1 t x.0).answer)
      × Alongside (reaching c (completing (derived_image c) x.1.0 s x.0).answer now x.0) (completing (derived_image c) x.1.0 s x.0).snapshot
      (completing (smaller_image c m) x.1.1 t x.0).snapshot steps

-- ---- the snapshot through the table

module _ (c : FlatChart) (fit : Fit c) (m : Marking) where
  abbrev n : ℕ
  n = c.count

  pub few : n ≤ max_events
  few = fit.few

  pub small-long : (now : Marking) → length (smaller_snapshot c m now).marks ≡ max_marks
  unfolding smaller_snapshot
  small-long now = length-each max_marks (through c m (mark_of c now))

  pub small_at : (now : Marking) (j : ℕ) → snap_of (smaller_snapshot c m now).marks j ≡ through c m (mark_of c now) j
  unfolding smaller_snapshot
  small_at now j =
      let F : Snap = through c m (mark_of c now) in
      cases (ltb j max_marks) (λ t. get_or-each max_marks F j false (ltb-true j max_marks t))
      (λ t. let h : max_marks ≤ j = ltb-false j max_marks t in
      let a : smaller_marks c m ≤ 4 * n = marks-fewer c m in
      let b : n ≤ max_events = few in
      get_or-eq_default (each max_marks F) false (rw (length-each max_marks F) h) ∙ sym (through-past c m (mark_of c now) j (omega arith)))

  pub small-new : (now : Marking) (k : ℕ) → stays c m k ≡ true → snap_of (smaller_snapshot c m now).marks (new_mark c m k) ≡ mark_of c now k
  small-new now k t = small_at now (new_mark c m k) ∙ through-new c m (mark_of c now) k t

  module _ (now : Marking) (marked : FitMarking c.count now) where
    full_start : (matching_of c now).snapshot ≡ snapshot_of (matching_marks c now)
    full_start = rw (matched c now fit marked)

    pub full_at : (k : ℕ) → snap_of (matching_of c now).snapshot.marks k ≡ mark_of c now k
    full_at k = rw full_start (marks-at c now k)

    -- whatever snapshot has the matching one's marks at their places in the table, and no other mark yes, is this one
    pub small_one : (t : Snapshot) → length t.marks ≡ max_marks → Through c m (snap_of (matching_of c now).snapshot.marks) (snap_of t.marks) → t ≡ smaller_snapshot c m now
    small_one t long w =
        ap snapshot_of (at_same t.marks (smaller_snapshot c m now).marks (long ∙ sym (small-long now))
        (λ j. through-one c m w j ∙ ap (λ (f : Snap). through c m f j) (fun_ext full_at) ∙ sym (small_at now j)))

-- ---- one step, from the chart's marking now

module _ (c : FlatChart) (fit : Fit c) (m : Marking) (now : Marking) (marked : FitMarking c.count now) (quiet : Quiet c m now)
    (e : ℕ) (K L : List ℕ) (ok : Ordered c m (e, (K, L))) where
  abbrev F : Snap
  F = mark_of c now

  abbrev full_step : Completion
  full_step = completing (derived_image c) K (matching_of c now).snapshot e

  abbrev small_step : Completion
  small_step = completing (smaller_image c m) L (smaller_snapshot c m now) e

  abbrev next : Marking
  next = reaching c full_step.answer now e

  small-past : (k : ℕ) → (smaller_book c m).marks ≤ k → through c m F k ≡ false
  unfolding smaller_book
  small-past k h = through-past c m F k h

  full-past : (k : ℕ) → (derived_book c).marks ≤ k → F k ≡ false
  unfolding derived_book
  full-past k h = match-past c now k h

  ok_full : e < (derived_book c).stages → order.Fit (rules_of (derived_image c) e) K
  unfolding derived_book
  ok_full h = (ok h).0

  ok_small : e < (smaller_book c m).stages → order.Fit (rules_of (smaller_image c m) e) L
  unfolding smaller_book
  ok_small h = (ok h).1

  full-answer : full_step.answer ≡ answer_for c.count F e
  unfolding derived_book
  full-answer =
      rw (full_start c fit m now marked)
      (answer-so (derived_book c) (demand2.passes c fit) F (matching_marks c now) (marks-at c now) (marks-whole c fit.few now) full-past e K ok_full)

  small-answer : small_step.answer ≡ answer_for c.count (through c m F) e
  unfolding smaller_book
  small-answer = answer-so (smaller_book c m) (smaller-passes c m fit) (through c m F) (smaller_snapshot c m now).marks (small_at c fit m now) (small-long c fit m now) small-past e L ok_small

  -- granted, 29 or 30 alike
  pub answers-same : full_step.answer ≡ small_step.answer
  answers-same =
      full-answer
      ∙ cases (ltb e c.count) (λ t. rw (t, through-stage c m F e (ltb-true e c.count t))) (λ t. rw t)
      ∙ sym small-answer

  -- the stage is there and open, or both refuse
  split : {C : Type 0} → (e < c.count → F e ≡ true → full_step.answer ≡ granted → C) → ((full_step.answer.code ≡ 0 → ⊥) → C) → C
  split f g =
      cases (ltb e c.count)
      (λ t. cases (F e)
      (λ y. f (ltb-true e c.count t) y (full-answer ∙ rw (t, y)))
      (λ y. g (λ z. let x : stage_closed ≡ 0 = rw (full-answer, t, y) at z in absurd (omega arith))))
      (λ t. g (λ z. let x : no_such_stage ≡ 0 = rw (full-answer, t) at z in absurd (omega arith)))

  next-done : full_step.answer ≡ granted → next ≡ after c now e
  next-done g = rw g

  next-kept : (full_step.answer.code ≡ 0 → ⊥) → next ≡ now
  next-kept n = rw (ne_eqb full_step.answer.code 0 n)

  pub fit_next : FitMarking c.count next
  fit_next = split (λ h y g. rw (next-done g) (after-fit c now e fit marked h)) (λ n. rw (next-kept n) marked)

  pub quiet_next : Quiet c m next
  quiet_next = split (λ h y g. rw (next-done g) (quiet-after c m quiet e h)) (λ n. rw (next-kept n) quiet)

  -- after the step the full snapshot matches the chart's next marking, and the smaller one is that through the table
  full-done : e < c.count → F e ≡ true → full_step.snapshot ≡ (matching_of c (after c now e)).snapshot
  unfolding derived_book
  full-done h y =
      let u : Marking = after c now e in
      rw (full_start c fit m now marked, full_start c fit m u (after-fit c now e fit marked h))
      (marks-so (derived_book c) (demand2.passes c fit) F (matching_marks c now) (marks-at c now) (marks-whole c fit.few now) full-past e K ok_full h y
      (mark_of c u) (matching_marks c u) (marks-at c u) (marks-whole c fit.few u) (derived-settled c fit now e h))

  small-done : e < c.count → F e ≡ true → small_step.snapshot ≡ smaller_snapshot c m (after c now e)
  unfolding smaller_book
  small-done h y =
      let u : Marking = after c now e in
      marks-so (smaller_book c m) (smaller-passes c m fit) (through c m F) (smaller_snapshot c m now).marks (small_at c fit m now) (small-long c fit m now) small-past e L ok_small h (through-stage c m F e h ∙ y)
      (through c m (mark_of c u)) (smaller_snapshot c m u).marks (small_at c fit m u) (small-long c fit m u) (smaller-settled c m fit now quiet e h)

  pub full-next : full_step.snapshot ≡ (matching_of c next).snapshot
  full-next =
      split (λ h y g. full-done h y ∙ ap (λ (u : Marking). (matching_of c u).snapshot) (sym (next-done g)))
      (λ n. refusal-hands-back (derived_image c) K (matching_of c now).snapshot e n ∙ ap (λ (u : Marking). (matching_of c u).snapshot) (sym (next-kept n)))

  pub small-next : small_step.snapshot ≡ smaller_snapshot c m next
  small-next =
      split (λ h y g. small-done h y ∙ ap (smaller_snapshot c m) (sym (next-done g)))
      (λ n. refusal-hands-back (smaller_image c m) L (smaller_snapshot c m now) e (λ z. n (ap (λ (a : Answer). a.code) answers-same ∙ z)) ∙ ap (smaller_snapshot c m) (sym (next-kept n)))

  -- the next marking is the one that the chart's step gives whoever may take it
  pub next-executing : (r : ℕ) → Permits (roles_of c e) r → next ≡ (executing c now e r).marking
  next-executing r p =
      let s = demand2.same-grants c fit now marked e r K (λ h. (ok h).0) p in
      split
      (λ h y g. let t = (granted-enabled c now e r).0 (s.1 (ap (λ (a : Answer). a.code) g)) in
      next-done g ∙ ap (λ (x : Step). x.marking) (executes-only c now e (is_done t.0 t.1 (after-executed c now e))))
      (λ n. next-kept n ∙ sym (refused-kept c now e r (λ z. n (s.0 z))))

-- and after the last of them
pub alongside-end : (c : FlatChart) (m now : Marking) (s t : Snapshot) (steps : List (ℕ × (List ℕ × List ℕ))) → Alongside c m now s t steps
    → Same c m (reached_all c now s steps) (completed_all (derived_image c) s (full_steps steps)) (completed_all (smaller_image c m) t (small_steps steps))
alongside-end c m now s t [] a = a
alongside-end c m now s t (x ∷ steps) a = alongside-end c m (reaching c (completing (derived_image c) x.1.0 s x.0).answer now x.0) (completing (derived_image c) x.1.0 s x.0).snapshot (completing (smaller_image c m) x.1.1 t x.0).snapshot steps a.2
