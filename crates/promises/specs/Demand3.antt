-- Demand 3, by request (ii) with the rules counted for a stage: what a completion of a book that the check passes does, which books the check refuses for
-- a loop or a clash, and that a book derived from an accepted chart passes. (That a completion ends is also part of the proof of its code.) Assumes nothing.
use Rattle.std.specs.Prelude.{ℕ, ◌≤◌, ◌<◌, ◌≡◌, ◌↔◌, List, length, take}
use Rattle.paper.specs.Limits.{loop_found, clash}
use Rattle.paper.specs.Answers.{granted}
use Rattle.chart.specs.Reading.{reading}
use Rattle.order_theory.specs.Order.{Counted, counted_rules, Fit, Loop}
use Rattle.book.specs.Text.{Snap, snap_of}
use Rattle.book.specs.Image.{stages_in, book_of}
use Rattle.book.specs.WellFormed.{WellFormed}
use Rattle.book.specs.declared.Snapshot.{Snapshot}
use Rattle.rule_order.specs.Nets.{rules_of}
use Rattle.clashes.specs.Pairs.{LowestClash}
use Rattle.judge.specs.Checking.{checking, checked_room, Acyclic, Clashing, LowestLoop, passes-book}
use Rattle.judge.proofs.Checking.{book-passes}
use Rattle.deriver.specs.Deriving.{derived_image}
use Rattle.runner.specs.Walks.{Goes, turns}
use Rattle.runner.specs.Table.{Passes}
use Rattle.runner.specs.Completing.{completing}
use Rattle.runner.specs.Completion.{Open, Completes}

-- "Take any book the check passes, any snapshot whose marks belong to it, and any open stage": the check may have been asked for any of the book's stages
pub record Ready (book : List ℕ) (snapshot : Snapshot) (stage : ℕ) : Type 0 where
  pub asked : ℕ
  pub room : ℕ
  pub passes : (checking book asked room).code ≡ 0
  pub opens : Open book snapshot stage

-- the walk of a completion through an order, to an end
abbrev pub Walk : List ℕ → Snapshot → ℕ → List ℕ → Snap → Type 0
Walk book snapshot stage order end = Goes (book_of book) (snap_of snapshot.marks) stage (snap_of snapshot.marks) order end

pub record Demand3 : Type 0 where
  -- "Completing that stage ends": along every rule order that respects the book's dependencies, each counted rule of that stage once and no other, it
  -- is granted, and the snapshot that it gives belongs to the book
  pub completes : (book order : List ℕ) (snapshot : Snapshot) (stage : ℕ) → Ready book snapshot stage → Fit (rules_of book stage) order
      → Completes book order snapshot stage (completing book order snapshot stage)
  -- "fires as the paper defines": the walk goes to that snapshot, and to no other
  pub fires : (book order : List ℕ) (snapshot : Snapshot) (stage : ℕ) → Ready book snapshot stage → Fit (rules_of book stage) order
      → (end : Snap) → Walk book snapshot stage order end → end ≡ snap_of (completing book order snapshot stage).snapshot.marks
  -- "leaves the same snapshot"
  pub alike : (book k l : List ℕ) (snapshot : Snapshot) (stage : ℕ) → Ready book snapshot stage → Fit (rules_of book stage) k → Fit (rules_of book stage) l
      → completing book k snapshot stage ≡ completing book l snapshot stage
  -- "and changes no mark more than once on the way"
  pub once : (book order : List ℕ) (snapshot : Snapshot) (stage : ℕ) → Ready book snapshot stage → Fit (rules_of book stage) order
      → (end : Snap) (walk : Walk book snapshot stage order end) (m : ℕ) → turns (book_of book) (snap_of snapshot.marks) stage walk m ≤ 1
  -- the order that the check writes for a stage is such an order of that stage
  pub written : (book : List ℕ) (stage : ℕ) (room : List ℕ) → (checking book stage (length room)).code ≡ 0
      → Fit (rules_of book stage) (take (counted_rules (rules_of book stage)) (checked_room book stage room))
  -- "A loop is refused exactly if one exists", "a loop among the rules counted for some stage", whichever stage is asked for; with the lowest mark targeted
  -- by a rule on one, over all stages
  pub loop : (book : List ℕ) (stage room : ℕ) → WellFormed book
      → ((t : ℕ) × (t < stages_in book) × (r : ℕ) × Counted (rules_of book t) r × Loop (rules_of book t) r) ↔ ((checking book stage room).code ≡ loop_found)
  pub loop_named : (book : List ℕ) (stage room : ℕ) → (checking book stage room).code ≡ loop_found → LowestLoop (book_of book) (checking book stage room).place
  -- "a clash exactly if there is no loop and two opposed rules aren't kept apart as the paper defines", over the whole book, with the lowest pair
  pub clashes : (book : List ℕ) (stage room : ℕ) → WellFormed book → (Acyclic (book_of book) × Clashing (book_of book)) ↔ ((checking book stage room).code ≡ clash)
  pub clash_named : (book : List ℕ) (stage room : ℕ) → (checking book stage room).code ≡ clash
      → Acyclic (book_of book) × LowestClash (book_of book) (checking book stage room).place (checking book stage room).other
  -- "A book derived from an accepted chart always passes, given room for the order", "for a stage the book has": the chart comes from the bytes of an
  -- image that reading accepts
  pub derived : (image : List ℕ) → (reading image).answer.code ≡ 0 → (stage room : ℕ) → stage < stages_in (derived_image (reading image).chart)
      → counted_rules (rules_of (derived_image (reading image).chart) stage) ≤ room → checking (derived_image (reading image).chart) stage room ≡ granted

pub ready-passes : {book : List ℕ} {snapshot : Snapshot} {stage : ℕ} → Ready book snapshot stage → Passes book
ready-passes {book} y = book-passes book (passes-book book y.asked y.room y.passes)
