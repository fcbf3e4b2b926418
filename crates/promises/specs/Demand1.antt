-- Demand 1: every call answers every input with the refusal that the paper names, in the paper's order; a refused call returns the marking
-- or snapshot it was given and leaves lent room as it was. Assumes nothing.
use Rattle.std.specs.Prelude.{ℕ, ◌≡◌, refl, false, List, ◌++◌, length, drop, replicate, leb}
use Rattle.std.proofs.Common.{arith}
use Rattle.paper.specs.Limits.{max_events, max_marks, include_exclude, unfit}
use Rattle.paper.specs.Answers.{granted, refusal}
use Rattle.paper.specs.declared.Answer.{Answer}
use Rattle.general.specs.Cases.{cases, coincide}
use Rattle.flat_chart.specs.Chart.{Fit, empty_chart}
use Rattle.graph.specs.Fitness.{FitMarking}
use Rattle.flat_chart.specs.Tests.{fit_chart}
use Rattle.graph.specs.Fitness.{fit}
use Rattle.graph.specs.Steps.{opening, executing, counting, finishing}
use Rattle.graph.specs.Execution.{Executes}
use Rattle.graph.specs.Opening.{Opens, Blocks}
use Rattle.flat_chart.specs.Flat.{FlatChart}
use Rattle.graph.specs.Flat.{Marking, OpenTest, Step}
use Rattle.graph.specs.declared.steps.OpenCount.{OpenCount}
use Rattle.graph.specs.declared.steps.Finished.{Finished}
use Rattle.chart.specs.Reading.{reading, refused}
use Rattle.chart.specs.Flat.{Reading}
use Rattle.chart.specs.Outcome.{Outcome}
use Rattle.order_theory.specs.Order.{counted_rules}
use Rattle.order_theory.specs.Running.{running_order}
use Rattle.book.specs.declared.Snapshot.{Snapshot}
use Rattle.rule_order.specs.Nets.{rules_of}
use Rattle.judge.specs.Checking.{Checked, checking, checked_room}
use Rattle.deriver.specs.Deriving.{derived_image, deriving_answer, derived_room}
use Rattle.deriver.specs.Matching.{matching_of}
use Rattle.deriver.specs.declared.Matched.{Matched}
use Rattle.smaller_deriver.specs.Calling.{smaller_image, no_table, deriving_smaller, smaller_room}
use Rattle.smaller_deriver.specs.declared.Smaller.{Smaller}
use Rattle.runner.specs.Table.{Answered}
use Rattle.runner.specs.Completing.{completing}
use Rattle.index_builder.specs.Building.{index_of, building, built_room, Builds}
use Rattle.indexed.specs.Indexed.{completing_indexed}
use Rattle.indexed.specs.IndexedTable.{Indexed}
use Rattle.indexed_list.specs.InList.{granted_of, reached, looked_in, stopping, placed, before_list, completing_list}
use Rattle.indexed_list.specs.ListTable.{Lists}
use Rattle.replay.specs.Replaying.{replaying, striking, untold}
use Rattle.replay.specs.Table.{Replays, Strikes}
use Rattle.replay.specs.Flat.{Replayed, Struck}
use Rattle.read_back.specs.ReadingBack.{reading_back}
use Rattle.read_back.specs.Table.{ReadsBack}
use Rattle.read_back.specs.Flat.{ReadBack}
use Rattle.mend.specs.Calling.{mending}
use Rattle.mend.specs.Table.{Mends, Written, Kept}
use Rattle.promises.specs.Tables as table
use Rattle.promises.specs.Tables.{Unfit, CountsOpen, counts-open, counts-only, Finishes, finishes, finishes-only, Derives, derives, DerivesSmaller, derives-smaller, derives-smaller-only}
use Rattle.promises.specs.Matching.{Matches}

-- ---- what a refused call gives

module _ (c : FlatChart) (m : Marking) where
  -- the finished test of a fit chart and marking is granted
  pub finish-granted : Fit c → FitMarking c.count m → (finishing c m).answer ≡ granted
  finish-granted f t = go (finishes c m)
    where
      go : {r : Finished} → Finishes c m r → r.answer ≡ granted
      go (table.Finishes.is_unfit n) = absurd (n f t)
      go (table.Finishes.is_finished f t n) = refl
      go (table.Finishes.is_waiting e f t i p) = refl

pub derive-refused : (c : FlatChart) (room : List ℕ) → ((deriving_answer c (length room)).code ≡ 0 → ⊥) → derived_room c room ≡ room
unfolding deriving_answer derived_room
derive-refused c room n =
    cases (fit_chart c)
    (λ t. cases (leb (length (derived_image c)) (length room)) (λ l. absurd (rw (t, l) at n refl)) (λ l. rw (t, l)))
    (λ t. rw t)

-- what a granted one writes, and the room behind it as it was
pub derive-granted : (c : FlatChart) (room : List ℕ) → (deriving_answer c (length room)).code ≡ 0 → derived_room c room ≡ derived_image c ++ drop (length (derived_image c)) room
unfolding deriving_answer derived_room
derive-granted c room e =
    cases (fit_chart c)
    (λ t. cases (leb (length (derived_image c)) (length room)) (λ l. rw (t, l)) (λ l. let z = rw (t, l) at e in absurd (omega arith)))
    (λ t. let z = rw t at e in absurd (omega arith))

-- the same of a smaller book, and a refusal's table
pub smaller-refused : (c : FlatChart) (m : Marking) (room : List ℕ) → ((deriving_smaller c m (length room)).answer.code ≡ 0 → ⊥)
    → ((deriving_smaller c m (length room)).table ≡ no_table) × (smaller_room c m room ≡ room)
unfolding deriving_smaller smaller_room
smaller-refused c m room n =
    cases (fit c m)
    (λ t. cases (leb (length (smaller_image c m)) (length room)) (λ l. absurd (rw (t, l) at n refl)) (λ l. rw (t, l) (refl, refl)))
    (λ t. rw t (refl, refl))

pub smaller-granted : (c : FlatChart) (m : Marking) (room : List ℕ) → (deriving_smaller c m (length room)).answer.code ≡ 0
    → smaller_room c m room ≡ smaller_image c m ++ drop (length (smaller_image c m)) room
unfolding deriving_smaller smaller_room
smaller-granted c m room e =
    cases (fit c m)
    (λ t. cases (leb (length (smaller_image c m)) (length room)) (λ l. rw (t, l)) (λ l. let z = rw (t, l) at e in absurd (omega arith)))
    (λ t. let z = rw t at e in absurd (omega arith))

-- ---- the demand, call by call: the answer is a row of the paper's table, no other answer is one, and what a refusal gives

pub record Demand1 : Type 0 where
  -- reading: 1 to 8, else the chart, and never 9 (request xii); a refused reading is empty
  pub read : (image : List ℕ) → Outcome image (reading image).answer
  pub read_only : (image : List ℕ) (a : Answer) → Outcome image a → a ≡ (reading image).answer
  pub read_refused : (image : List ℕ) → ((reading image).answer.code ≡ 0 → ⊥) → reading image ≡ refused (reading image).answer
  pub read_never : (image : List ℕ) → (reading image).answer.code ≡ include_exclude → ⊥
  -- the open test: 14, 10, 11, 12, 13; it hands back no marking, and with other codes than 12 and 13 two empty sets
  pub open_test : (c : FlatChart) (m : Marking) (e : ℕ) → Opens c m e (opening c m e)
  pub open_test_only : (c : FlatChart) (m : Marking) (e : ℕ) (t : OpenTest) → Opens c m e t → t ≡ opening c m e
  pub open_test_others : (c : FlatChart) (m : Marking) (e : ℕ) → (Blocks (opening c m e).answer.code → ⊥) → ((opening c m e).conditions ≡ 0) × ((opening c m e).milestones ≡ 0)
  -- executing: 14, 10, 32, 11, 12, 13, with both sets in the rows of 12 and 13; a refused step returns its marking
  pub execute : (c : FlatChart) (m : Marking) (e r : ℕ) → Executes c m e r (executing c m e r)
  pub execute_only : (c : FlatChart) (m : Marking) (e r : ℕ) (s : Step) → Executes c m e r s → s ≡ executing c m e r
  pub execute_refused : (c : FlatChart) (m : Marking) (e r : ℕ) → ((executing c m e r).answer.code ≡ 0 → ⊥) → (executing c m e r).marking ≡ m
  -- counting: 14; a refused count is 0 and 256
  pub count : (c : FlatChart) (m : Marking) → CountsOpen c m (counting c m)
  pub count_only : (c : FlatChart) (m : Marking) (r : OpenCount) → CountsOpen c m r → r ≡ counting c m
  pub count_granted : (c : FlatChart) (m : Marking) → Fit c → FitMarking c.count m → (counting c m).answer ≡ granted
  pub count_refused : (c : FlatChart) (m : Marking) → ((counting c m).answer.code ≡ 0 → ⊥) → counting c m ≡ record { answer = refusal unfit; count = 0; lowest = max_events }
  -- the finished test: 14; a refused one says no
  pub finished : (c : FlatChart) (m : Marking) → Finishes c m (finishing c m)
  pub finished_only : (c : FlatChart) (m : Marking) (r : Finished) → Finishes c m r → r ≡ finishing c m
  pub finished_granted : (c : FlatChart) (m : Marking) → Fit c → FitMarking c.count m → (finishing c m).answer ≡ granted
  pub finished_refused : (c : FlatChart) (m : Marking) → ((finishing c m).answer.code ≡ 0 → ⊥) → finishing c m ≡ record { answer = refusal unfit; yes = false }
  -- the matching snapshot: 14; a refused one has every mark no
  pub matching : (c : FlatChart) (m : Marking) → Matches c m (matching_of c m)
  pub matching_only : (c : FlatChart) (m : Marking) (r : Matched) → Matches c m r → r ≡ matching_of c m
  pub matching_granted : (c : FlatChart) (m : Marking) → Fit c → FitMarking c.count m → (matching_of c m).answer ≡ granted
  pub matching_refused : (c : FlatChart) (m : Marking) → ((matching_of c m).answer.code ≡ 0 → ⊥)
      → matching_of c m ≡ record { answer = refusal unfit; snapshot = record { marks = replicate max_marks false } }
  -- deriving: 14, 15; the book is written, and room past it stays as it was; a refusal leaves the room as it was
  pub derive : (c : FlatChart) (room : ℕ) → Derives c room (deriving_answer c room)
  pub derive_only : (c : FlatChart) (room : ℕ) (a : Answer) → Derives c room a → a ≡ deriving_answer c room
  pub derive_granted : (c : FlatChart) (room : List ℕ) → (deriving_answer c (length room)).code ≡ 0 → derived_room c room ≡ derived_image c ++ drop (length (derived_image c)) room
  pub derive_refused : (c : FlatChart) (room : List ℕ) → ((deriving_answer c (length room)).code ≡ 0 → ⊥) → derived_room c room ≡ room
  -- deriving a smaller book: 14, 15; the book is written, and room past it stays as it was; a refusal leaves the room as it was, and its table has 65,535 throughout
  pub smaller : (c : FlatChart) (m : Marking) (room : ℕ) → DerivesSmaller c m room (deriving_smaller c m room)
  pub smaller_only : (c : FlatChart) (m : Marking) (room : ℕ) (r : Smaller) → DerivesSmaller c m room r → r ≡ deriving_smaller c m room
  pub smaller_granted : (c : FlatChart) (m : Marking) (room : List ℕ) → (deriving_smaller c m (length room)).answer.code ≡ 0
      → smaller_room c m room ≡ smaller_image c m ++ drop (length (smaller_image c m)) room
  pub smaller_refused : (c : FlatChart) (m : Marking) (room : List ℕ) → ((deriving_smaller c m (length room)).answer.code ≡ 0 → ⊥)
      → ((deriving_smaller c m (length room)).table ≡ no_table) × (smaller_room c m room ≡ room)
  -- the check for a stage: 20 to 26, 29, 31; that stage's running order is written, and room past it stays as it was; a refusal leaves the room as it was
  pub check : (book : List ℕ) (stage room : ℕ) → Checked book stage room (checking book stage room)
  pub check_only : (book : List ℕ) (stage room : ℕ) (a : Answer) → Checked book stage room a → a ≡ checking book stage room
  pub check_granted : (book : List ℕ) (stage : ℕ) (room : List ℕ) → (checking book stage (length room)).code ≡ 0
      → checked_room book stage room ≡ running_order (rules_of book stage) ++ drop (counted_rules (rules_of book stage)) room
  pub check_refused : (book : List ℕ) (stage : ℕ) (room : List ℕ) → ((checking book stage (length room)).code ≡ 0 → ⊥) → checked_room book stage room ≡ room
  -- completing: 20 to 26, 29, 27, 28, 30; a refusal hands back the snapshot it was given
  pub complete : (book order : List ℕ) (s : Snapshot) (stage : ℕ) → Answered book order s.marks stage (completing book order s stage).answer
  pub complete_only : (book order : List ℕ) (s : Snapshot) (stage : ℕ) (a : Answer) → Answered book order s.marks stage a → a ≡ (completing book order s stage).answer
  pub complete_refused : (book order : List ℕ) (s : Snapshot) (stage : ℕ) → ((completing book order s stage).answer.code ≡ 0 → ⊥) → (completing book order s stage).snapshot ≡ s
  -- building an index: 20 to 26, 35; the image is written, and room past it stays as it was; a refusal leaves the room as it was
  pub build : (book : List ℕ) (room : ℕ) → Builds book room (building book room)
  pub build_only : (book : List ℕ) (room : ℕ) (a : Answer) → Builds book room a → a ≡ building book room
  pub build_granted : (book room : List ℕ) → (building book (length room)).code ≡ 0 → built_room book room ≡ index_of book ++ drop (length (index_of book)) room
  pub build_refused : (book room : List ℕ) → ((building book (length room)).code ≡ 0 → ⊥) → built_room book room ≡ room
  -- completing through the index: 20 to 26, 34, 28, 29, 30; a refusal hands back the snapshot it was given, and "a refused completion reports 0"
  pub indexed : (book index : List ℕ) (s : Snapshot) (stage : ℕ) → Indexed book index s.marks stage (completing_indexed book index s stage).answer
  pub indexed_only : (book index : List ℕ) (s : Snapshot) (stage : ℕ) (a : Answer) → Indexed book index s.marks stage a → a ≡ (completing_indexed book index s stage).answer
  pub indexed_refused : (book index : List ℕ) (s : Snapshot) (stage : ℕ) → ((completing_indexed book index s stage).answer.code ≡ 0 → ⊥) → (completing_indexed book index s stage).snapshot ≡ s
  pub indexed_none : (book index : List ℕ) (s : Snapshot) (stage : ℕ) → ((completing_indexed book index s stage).answer.code ≡ 0 → ⊥) → (completing_indexed book index s stage).evaluated ≡ 0
  -- a list of completions: 20 to 26, 34, 28, 38 before the list, with 0 granted, the snapshot that was given and 0 rules evaluated; 29 and 30 within it, and here "a
  -- refusal within the list hands back the snapshot reached", with the number granted, which is the place of the refused one, and "the sum over the granted ones"
  pub list : (book index : List ℕ) (s : Snapshot) (list : List ℕ) → Lists book index s.marks list (completing_list book index s list).answer
  pub list_only : (book index : List ℕ) (s : Snapshot) (list : List ℕ) (a : Answer) → Lists book index s.marks list a → a ≡ (completing_list book index s list).answer
  pub list_before : (book index : List ℕ) (s : Snapshot) (list : List ℕ) → ((before_list book index s.marks (length list)).code ≡ 0 → ⊥)
      → completing_list book index s list ≡ record { answer = before_list book index s.marks (length list); granted = 0; snapshot = s; evaluated = 0 }
  pub list_within : (book index : List ℕ) (s : Snapshot) (list : List ℕ) → (before_list book index s.marks (length list)).code ≡ 0
      → completing_list book index s list ≡ record {
        answer = placed (stopping book s.marks list) (granted_of book s.marks list);
        granted = granted_of book s.marks list;
        snapshot = record { marks = reached book s.marks list };
        evaluated = looked_in book s.marks list;
      }
  -- replay: 14; a refused one gives the marking as it was. "A replay that stops at a step is no refused call and keeps the marking reached"
  pub replay : (c : FlatChart) (m : Marking) (numbers : List ℕ) → Replays c m numbers (replaying c m numbers)
  pub replay_only : (c : FlatChart) (m : Marking) (numbers : List ℕ) (r : Replayed) → Replays c m numbers r → r ≡ replaying c m numbers
  pub replay_refused : (c : FlatChart) (m : Marking) (numbers : List ℕ) → ((replaying c m numbers).answer.code ≡ 0 → ⊥) → replaying c m numbers ≡ untold m
  -- strike: 14, 36, and the code of the first step that fails; "demand 1 reads for 14, 36 and a strike that isn't granted"
  pub strike : (c : FlatChart) (m : Marking) (numbers : List ℕ) (p : ℕ) → Strikes c m numbers p (striking c m numbers p)
  pub strike_only : (c : FlatChart) (m : Marking) (numbers : List ℕ) (p : ℕ) (s : Struck) → Strikes c m numbers p s → s ≡ striking c m numbers p
  pub strike_refused : (c : FlatChart) (m : Marking) (numbers : List ℕ) (p : ℕ) → ((striking c m numbers p).answer.code ≡ 0 → ⊥) → (striking c m numbers p).marking ≡ m
  -- reading a book back: 20 to 26, 33; a refusal gives the empty chart
  pub read_back : (book : List ℕ) → ReadsBack book (reading_back book)
  pub read_back_only : (book : List ℕ) (r : ReadBack) → ReadsBack book r → r ≡ reading_back book
  pub read_back_refused : (book : List ℕ) → ((reading_back book).answer.code ≡ 0 → ⊥) → reading_back book ≡ record { answer = (reading_back book).answer; chart = empty_chart }
  -- mending: 1, 2, 3, 7, 37; both rooms past what is written stay as they were; a refusal gives 0 entries and writes nothing
  pub mend : (image : List ℕ) (chart list : ℕ) → Mends image chart list (mending image chart list).answer
  pub mend_only : (image : List ℕ) (chart list : ℕ) (a : Answer) → Mends image chart list a → a ≡ (mending image chart list).answer
  pub mend_granted : (image chart list : List ℕ) → (mending image (length chart) (length list)).answer.code ≡ 0 → Written image chart list
  pub mend_refused : (image chart list : List ℕ) → ((mending image (length chart) (length list)).answer.code ≡ 0 → ⊥) → Kept image chart list

-- ---- two results that meet a contract coincide: the calls whose lemma stands here; the others' stand beside their definitions

pub read-determined : (image : List ℕ) (r s : Reading) → r ≡ reading image → s ≡ reading image → r ≡ s
read-determined image r s = coincide

pub matching-determined : (c : FlatChart) (m : Marking) (r s : Matched) → r ≡ matching_of c m → s ≡ matching_of c m → r ≡ s
matching-determined c m r s = coincide

pub derive-determined : (c : FlatChart) (room : List ℕ) (a b : Answer) (k l : List ℕ) → a ≡ deriving_answer c (length room) → k ≡ derived_room c room → b ≡ deriving_answer c (length room)
    → l ≡ derived_room c room → (a ≡ b) × (k ≡ l)
derive-determined c room a b k l p q r s = (coincide p r, coincide q s)

pub smaller-determined : (c : FlatChart) (m : Marking) (room : List ℕ) (r s : Smaller) (k l : List ℕ) → r ≡ deriving_smaller c m (length room) → k ≡ smaller_room c m room
    → s ≡ deriving_smaller c m (length room) → l ≡ smaller_room c m room → (r ≡ s) × (k ≡ l)
smaller-determined c m room r s k l p q t u = (coincide p t, coincide q u)
