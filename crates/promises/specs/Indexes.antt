-- Request (iii): an index of orders beside the book. What building writes is fit, no other index is, completing through it is completing along the order from the
-- check, and a book derived from an accepted chart can always be indexed. Assumes nothing.
use Rattle.std.specs.Prelude.{ℕ, ◌≤◌, ◌≡◌, List, length}
use Rattle.paper.specs.Answers.{granted}
use Rattle.chart.specs.Reading.{reading}
use Rattle.chart.specs.ReadingGives.{reading-fit}
use Rattle.book.specs.declared.Snapshot.{Snapshot}
use Rattle.judge.specs.Checking.{checking}
use Rattle.deriver.specs.Deriving.{derived_image}
use Rattle.runner.specs.Completing.{completing}
use Rattle.index_builder.specs.Building.{index_of, building, build-granted}
use Rattle.indexed.specs.Indexed.{index_answer, completing_indexed, completion_of}
use Rattle.indexed.specs.IndexedTable.{checked_order, built_index, built-fit, fit-one, through-built}
use Rattle.promises.specs.Demand2.{passes}

pub record Indexes : Type 0 where
  -- "An index is fit exactly if it is what the builder writes for this book.": what is built is fit, and two that are fit are one
  pub fit : (book lent : List ℕ) → (building book (length lent)).code ≡ 0 → index_answer book (built_index book lent) ≡ granted
  pub one : (book i j : List ℕ) → (index_answer book i).code ≡ 0 → (index_answer book j).code ≡ 0 → i ≡ j
  -- "For a stage the book has, a completion through the index gives the same answer and snapshot as one with the order from the check.", whatever the snapshot
  pub same : (book lent room : List ℕ) (stage : ℕ) → (building book (length lent)).code ≡ 0 → (e : (checking book stage (length room)).code ≡ 0) → (snapshot : Snapshot)
      → completion_of (completing_indexed book (built_index book lent) snapshot stage) ≡ completing book (checked_order book stage room e) snapshot stage
  -- a book derived from an accepted chart can always be indexed, given room
  pub derived : (image : List ℕ) → (reading image).answer.code ≡ 0 → (room : ℕ) → length (index_of (derived_image (reading image).chart)) ≤ room
      → building (derived_image (reading image).chart) room ≡ granted

pub indexes : Indexes
indexes =
    record {
      fit = built-fit;
      one = fit-one;
      same = through-built;
      derived = λ image g room h. build-granted (derived_image (reading image).chart) room (passes (reading image).chart (reading-fit image g).0) h;
    }
