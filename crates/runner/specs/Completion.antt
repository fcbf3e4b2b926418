-- What a completion does. For any book that the check passes, any snapshot whose marks belong to it and any open stage: completing is granted along every
-- order of the stage's counted rules that respects the book's dependencies, fires as the paper defines, leaves the same snapshot whatever the order, and changes no mark
-- more than once on the way; the order that the check writes is such an order. (That a completion ends is part of its contract.) Assumes nothing.
use Rattle.std.specs.Prelude.{◌≡◌, refl, true, List, ℕ, ◌≤◌, ◌<◌, length, take, drop}
use Rattle.std.proofs.Common.{sym, ap, subst, ◌∙◌, arith, take_at, ne_eqb}
use Rattle.paper.specs.Limits.{max_marks}
use Rattle.paper.specs.Answers.{granted}
use Rattle.paper.specs.declared.Answer.{Answer}
use Rattle.general.specs.Cases.{coincide}
use Rattle.order_theory.specs.Order.{counted_rules, Fit}
use Rattle.order_theory.specs.Running.{running_order}
use Rattle.order_theory.specs.Settle.{Calm, Settled, run}
use Rattle.order_theory.proofs.Settle.{run_settled, settled-unique, confluence, toggle-once}
use Rattle.order_theory.specs.Snapshots.{at_same, length-run_l, at-run_l}
use Rattle.book.specs.Text.{Snap, snap_of}
use Rattle.book.specs.Image.{stages_in, book_of}
use Rattle.book.specs.declared.Snapshot.{Snapshot}
use Rattle.rule_order.specs.Rules.{acts_of}
use Rattle.rule_order.specs.Nets.{rules_of, targets-small}
use Rattle.clashes.specs.Clash.{calm}
use Rattle.judge.specs.Checking.{checking, checked_room, marks-many, targets-in}
use Rattle.judge.proofs.Checking.{granted-room}
use Rattle.runner.specs.Completing.{completion_answer, through, completing}
use Rattle.runner.specs.Walks.{Goes, turns, turns-run, goes-run}
use Rattle.runner.specs.Table.{Passes, Belongs, Answered, refused, nowhere, unfit, above, closed, completed, answered, answered-is}
use Rattle.runner.specs.declared.Completion.{Completion}

-- ---- what a completion is made for

-- "any snapshot whose marks belong to it, any open stage": one record of 1,024 marks, none at or above M yes, and a stage of the book that is open
pub record Open (s : List ℕ) (snapshot : Snapshot) (stage : ℕ) : Type 0 where
  pub whole : length snapshot.marks ≡ max_marks
  pub belongs : Belongs s snapshot.marks
  pub known : stage < stages_in s
  pub yes : snap_of snapshot.marks stage ≡ true

-- what completing along the order gives
pub record Completes (s order : List ℕ) (snapshot : Snapshot) (stage : ℕ) (result : Completion) : Type 0 where
  -- it is granted
  pub granted : result.answer ≡ granted
  -- it fires as the paper defines
  pub fires : Goes (book_of s) (snap_of snapshot.marks) stage (snap_of snapshot.marks) order (snap_of result.snapshot.marks)
  -- the rules that fire in the end have written the end, and nothing else has
  pub settled : Settled (rules_of s stage) (acts_of (book_of s) (snap_of snapshot.marks) stage) (snap_of snapshot.marks) (snap_of result.snapshot.marks)
  -- the snapshot is one of 1,024 marks that belong to the book
  pub whole : length result.snapshot.marks ≡ max_marks
  pub belongs : Belongs s result.snapshot.marks

module _ (s : List ℕ) (p : Passes s) (snapshot : Snapshot) (stage : ℕ) (o : Open s snapshot stage) where
  quiet : Calm (rules_of s stage) (acts_of (book_of s) (snap_of snapshot.marks) stage)
  quiet = calm (book_of s) (snap_of snapshot.marks) stage p.calm

  module _ (order : List ℕ) (f : Fit (rules_of s stage) order) where
    answer-granted : completion_answer s order snapshot.marks stage ≡ granted
    answer-granted = sym (answered-is s order stage snapshot.marks granted (completed p o.known f o.belongs o.yes))

    pub completed-marks : completing s order snapshot stage ≡ record { answer = granted; snapshot = record { marks = through s snapshot.marks stage snapshot.marks order } }
    unfolding completing
    completed-marks = rw answer-granted

    -- the snapshot after the call is the paper's run from the snapshot before it
    completed-run : snap_of (through s snapshot.marks stage snapshot.marks order) ≡ run (rules_of s stage) (acts_of (book_of s) (snap_of snapshot.marks) stage) (snap_of snapshot.marks) order
    unfolding through
    completed-run =
        at-run_l (rules_of s stage) (acts_of (book_of s) (snap_of snapshot.marks) stage) order snapshot.marks
        (λ q i. rw o.whole (targets-small s stage p.formed q (f.below q i)))

    after-settled : Settled (rules_of s stage) (acts_of (book_of s) (snap_of snapshot.marks) stage) (snap_of snapshot.marks) (snap_of (through s snapshot.marks stage snapshot.marks order))
    after-settled = rw completed-run (run_settled (rules_of s stage) (acts_of (book_of s) (snap_of snapshot.marks) stage) order f quiet (snap_of snapshot.marks))

    after-whole : length (through s snapshot.marks stage snapshot.marks order) ≡ max_marks
    unfolding through
    after-whole = length-run_l (rules_of s stage) (acts_of (book_of s) (snap_of snapshot.marks) stage) order snapshot.marks ∙ o.whole

    -- no mark changes more than once on the way, whatever walk it is
    pub once : (end : Snap) (walk : Goes (book_of s) (snap_of snapshot.marks) stage (snap_of snapshot.marks) order end) (m : ℕ) → turns (book_of s) (snap_of snapshot.marks) stage walk m ≤ 1
    once end walk m =
        rw (turns-run (book_of s) (snap_of snapshot.marks) stage walk m)
        (toggle-once (rules_of s stage) (acts_of (book_of s) (snap_of snapshot.marks) stage) order f quiet (snap_of snapshot.marks) m)

    pub completes : Completes s order snapshot stage (completing s order snapshot stage)
    completes =
        rw completed-marks (record {
          granted = refl;
          fires = rw completed-run (goes-run (book_of s) (snap_of snapshot.marks) stage order (snap_of snapshot.marks));
          settled = after-settled;
          whole = after-whole;
          belongs = λ m l h. after-settled.stayed m (λ r i e. absurd (let j = targets-in s p.formed stage r i in omega (arith, marks-many s))) ∙ o.belongs m l h;
        })

  -- every order that respects the book's dependencies leaves the same snapshot
  pub orders-end-alike : (k l : List ℕ) → Fit (rules_of s stage) k → Fit (rules_of s stage) l → completing s k snapshot stage ≡ completing s l snapshot stage
  orders-end-alike k l x y =
      let A = acts_of (book_of s) (snap_of snapshot.marks) stage in
      let z : through s snapshot.marks stage snapshot.marks k ≡ through s snapshot.marks stage snapshot.marks l =
      at_same (through s snapshot.marks stage snapshot.marks k) (through s snapshot.marks stage snapshot.marks l) (after-whole k x ∙ sym (after-whole l y))
      (λ m. ap (λ (u : Snap). u m) (completed-run k x) ∙ confluence (rules_of s stage) A k l x y quiet (snap_of snapshot.marks) m ∙ sym (ap (λ (u : Snap). u m) (completed-run l y))) in
      completed-marks k x ∙ rw z (sym (completed-marks l y))

  -- and a snapshot that is what the rules make of the start, whatever the order, is that one
  pub completed-is : (order : List ℕ) → Fit (rules_of s stage) order → (F : Snap) → Settled (rules_of s stage) (acts_of (book_of s) (snap_of snapshot.marks) stage) (snap_of snapshot.marks) F
      → (m : ℕ) → snap_of (completing s order snapshot stage).snapshot.marks m ≡ F m
  completed-is order f F g m =
      settled-unique (rules_of s stage) (acts_of (book_of s) (snap_of snapshot.marks) stage) (snap_of snapshot.marks) (snap_of (completing s order snapshot stage).snapshot.marks) F
      (completes order f).settled g order f m

-- ---- the order that the check writes for the stage

pub written-fit : (s : List ℕ) (stage : ℕ) (room : List ℕ) → (checking s stage (length room)).code ≡ 0 → Fit (rules_of s stage) (take (counted_rules (rules_of s stage)) (checked_room s stage room))
written-fit s stage room e =
    let n : ℕ = counted_rules (rules_of s stage) in
    let (w, f, l) = granted-room s stage room e in
    let z : take n (checked_room s stage room) ≡ running_order (rules_of s stage) = ap (take n) w ∙ take_at (running_order (rules_of s stage)) (drop n room) n l in
    subst (λ (k : List ℕ). Fit (rules_of s stage) k) (sym z) f

-- ---- nothing else is granted, a refusal hands back the snapshot, and two results that meet the contract coincide

pub granted-only : (s order : List ℕ) (snapshot : Snapshot) (stage : ℕ) → length snapshot.marks ≡ max_marks → (completing s order snapshot stage).answer.code ≡ 0
    → Passes s × Fit (rules_of s stage) order × Open s snapshot stage
unfolding completing
granted-only s order snapshot stage l e = go (completion_answer s order snapshot.marks stage) (answered s order stage snapshot.marks) e
  where
    go : (a : Answer) → Answered s order snapshot.marks stage a → a.code ≡ 0 → Passes s × Fit (rules_of s stage) order × Open s snapshot stage
    go a (refused b c n l) z = absurd (n z)
    go a (nowhere p h) z = absurd (omega arith)
    go a (unfit p h n) z = absurd (omega arith)
    go a (above p h f m l i x) z = absurd (omega arith)
    go a (closed p h f b x) z = absurd (omega arith)
    go a (completed p h f b x) z = (p, f, record { whole = l; belongs = b; known = h; yes = x })

pub refusal-hands-back : (s order : List ℕ) (snapshot : Snapshot) (stage : ℕ) → ((completing s order snapshot stage).answer.code ≡ 0 → ⊥) → (completing s order snapshot stage).snapshot ≡ snapshot
unfolding completing
refusal-hands-back s order snapshot stage n = rw (ne_eqb (completion_answer s order snapshot.marks stage).code 0 n)

pub complete-determined : (s order : List ℕ) (snapshot : Snapshot) (stage : ℕ) (x y : Completion) → x ≡ completing s order snapshot stage → y ≡ completing s order snapshot stage → x ≡ y
complete-determined s order snapshot stage x y e f = coincide e f
