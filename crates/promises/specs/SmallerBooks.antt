-- Request (xi): smaller books. What derive_smaller writes, the table it hands back, which marks go, that the book runs as the full one does, and that it is never larger.
-- Stated of what the calls give. Assumes nothing.
use Rattle.std.specs.Prelude.{ℕ, ◌*◌, ◌≤◌, ◌<◌, ◌≡◌, refl, ◌↔◌, false, List, length, get_or, take, drop}
use Rattle.std.proofs.Common.{take_at, le-leb}
use Rattle.paper.specs.Limits.{max_marks, no_mark}
use Rattle.paper.specs.Answers.{granted}
use Rattle.general.specs.Lists.{All}
use Rattle.flat_chart.specs.Chart.{Fit}
use Rattle.graph.specs.Fitness.{FitMarking}
use Rattle.graph.specs.Fitness.{both-fit}
use Rattle.flat_chart.specs.Flat.{FlatChart}
use Rattle.graph.specs.Flat.{Marking}
use Rattle.book.specs.Text.{snap_of}
use Rattle.book.specs.Image.{book_of, marks_in}
use Rattle.book.specs.declared.Snapshot.{Snapshot}
use Rattle.order_theory.specs.Order as order
use Rattle.order_theory.specs.Order.{counted_rules}
use Rattle.rule_order.specs.Nets.{rules_of}
use Rattle.judge.specs.Checking.{checking}
use Rattle.derived.specs.Derived.{executed_mark, included_mark, answered_mark, derived_book}
use Rattle.smaller.specs.Staying.{ExecutedGoes, IncludedGoes, AnsweredGoes, mark_table}
use Rattle.smaller.specs.Smaller.{smaller_book}
use Rattle.deriver.specs.Deriving.{derived_image}
use Rattle.deriver.specs.Matching.{matching_of}
use Rattle.smaller_deriver.specs.Calling.{smaller_image, deriving_smaller, smaller_room}
use Rattle.index_builder.specs.Building.{index_of, building}
use Rattle.promises.specs.Demand2.{ordered}
use Rattle.promises.specs.Smaller.{Ordered, Alongside, smaller_snapshot}

-- a granted call writes the image, leaves the room behind it as it was, and hands back the table
pub granted-smaller : (c : FlatChart) (m : Marking) → Fit c → FitMarking c.count m → (bytes : List ℕ) → length (smaller_image c m) ≤ length bytes
    → (deriving_smaller c m (length bytes) ≡ record { answer = granted; table = mark_table c m }) × (take (length (smaller_image c m)) (smaller_room c m bytes) ≡ smaller_image c m)
unfolding deriving_smaller smaller_room
granted-smaller c m f t bytes h =
    rw (both-fit c m f t, le-leb (length (smaller_image c m)) (length bytes) h)
    (refl, take_at (smaller_image c m) (drop (length (smaller_image c m)) bytes) (length (smaller_image c m)) refl)

-- "The smaller book's start snapshot is the full one's matching snapshot through the table": every mark that has a new number stands there, and no other mark is yes
pub record Starts (table book : List ℕ) (s t : Snapshot) : Type 0 where
  pub whole : length t.marks ≡ max_marks
  pub kept : (k : ℕ) → (get_or table k no_mark ≡ no_mark → ⊥) → snap_of t.marks (get_or table k no_mark) ≡ snap_of s.marks k
  pub past : (j : ℕ) → marks_in book ≤ j → snap_of t.marks j ≡ false

-- ---- through the calls

module _ (c : FlatChart) (m : Marking) (bytes : List ℕ) where
  -- the book that derive_smaller writes into room, as far as it is written
  abbrev pub written_smaller : List ℕ
  written_smaller = take (length (smaller_image c m)) (smaller_room c m bytes)

  -- the table that it hands back: the new number of the mark with the old number k
  abbrev pub number_of : ℕ → ℕ
  number_of k = get_or (deriving_smaller c m (length bytes)).table k no_mark

  pub record SmallerBooks (room : List ℕ) : Type 0 where
    -- deriving is granted, and what it writes is the smaller book's image, which reads as that book
    pub derives : (deriving_smaller c m (length bytes)).answer ≡ granted
    pub writes : written_smaller ≡ smaller_image c m
    pub reads : book_of written_smaller ≡ smaller_book c m
    -- "a handed-back table of .. new mark numbers, 65,535 for a dropped or absent mark"; request (xiv): "gets 1,024 places"
    pub places : length (deriving_smaller c m (length bytes)).table ≡ max_marks
    pub absent : (k : ℕ) → 4 * c.count ≤ k → number_of k ≡ no_mark
    -- which go: no stage; "Executed e goes if e is a condition of nothing."
    pub stages : (e : ℕ) → e < c.count → number_of e ≡ e
    pub executed : (e : ℕ) → e < c.count → (number_of (executed_mark c.count e) ≡ no_mark) ↔ ExecutedGoes c m e
    -- "Included e goes if nothing includes or excludes e and e starts included."
    pub included : (e : ℕ) → e < c.count → (number_of (included_mark c.count e) ≡ no_mark) ↔ IncludedGoes c m e
    -- "Answered e goes if e is nobody's response and doesn't start pending"
    pub answered : (e : ℕ) → e < c.count → (number_of (answered_mark c.count e) ≡ no_mark) ↔ AnsweredGoes c m e
    -- "Remaining marks .. close up in their old order.": new numbers rise with the old ones, are below the book's marks, and each of those is one
    pub rising : (j k : ℕ) → j < k → (number_of j ≡ no_mark → ⊥) → (number_of k ≡ no_mark → ⊥) → number_of j < number_of k
    pub below : (k : ℕ) → (number_of k ≡ no_mark → ⊥) → number_of k < marks_in written_smaller
    pub each : (j : ℕ) → j < marks_in written_smaller → (k : ℕ) × (number_of k ≡ j)
    -- the check passes it for each of its stages, and what the check writes is an order of it; it can be indexed, given room
    pub passes : (e : ℕ) → e < c.count → checking written_smaller e (length room) ≡ granted
    pub orders : (e : ℕ) → e < c.count → order.Fit (rules_of (smaller_image c m) e) (ordered written_smaller room e)
    pub indexed : (lent : ℕ) → length (index_of written_smaller) ≤ lent → building written_smaller lent ≡ granted
    -- "From the start marking, over every sequence of completions, stages and kept marks are those of the full book, and the finished test is the same with dropped marks
    -- read as yes": from whichever start snapshot, and there is one
    pub starts : Starts (deriving_smaller c m (length bytes)).table written_smaller (matching_of c m).snapshot (smaller_snapshot c m m)
    pub alongside : (t : Snapshot) → Starts (deriving_smaller c m (length bytes)).table written_smaller (matching_of c m).snapshot t → (steps : List (ℕ × (List ℕ × List ℕ))) → All (Ordered c m) steps
        → Alongside c m m (matching_of c m).snapshot t steps
    -- never more rules, words, marks, conditions or bytes than the full book
    pub rules : length (book_of written_smaller).rules ≤ length (derived_book c).rules
    pub words : length (book_of written_smaller).words ≤ length (derived_book c).words
    pub marks : (book_of written_smaller).marks ≤ (derived_book c).marks
    pub conditions : length (book_of written_smaller).conditions ≤ length (derived_book c).conditions
    pub image : length written_smaller ≤ length (derived_image c)
    -- the full book's bytes exactly where no mark is dropped
    pub whole : (written_smaller ≡ derived_image c) ↔ ((k : ℕ) → k < 4 * c.count → number_of k ≡ no_mark → ⊥)
