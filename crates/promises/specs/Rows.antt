-- The settled examples P1 to P12 as rows under one theorem. Assumes nothing.
use Prim.Native.Nat.{ℕ, ◌+◌, ◌-◌, ◌*◌, ◌≤◌, ◌<◌}
use Rattle.std.specs.Prelude.{◌≡◌, true, List, [], ◌∷◌, length, get_or, set, replicate}
use Rattle.paper.specs.Limits.{max_events, max_marks, no_mark, condition_wanting, loop_found, order_unfit, stage_closed}
use Rattle.paper.specs.Limits as limit
use Rattle.paper.specs.Answers.{answer, granted, refusal}
use Rattle.graph.specs.Steps.{executing, finishing, granting}
use Rattle.graph.specs.Execution.{holding}
use Rattle.graph.specs.Examples.{none, pair, marking}
use Rattle.flat_chart.specs.Flat.{FlatChart}
use Rattle.graph.specs.Flat.{Marking}
use Rattle.chart.specs.Reading.{reading}
use Rattle.chart.specs.Flat.{Reading}
use Rattle.chart.specs.Examples.{whole_chart, group_chart, both_chart, both_reading}
use Rattle.book.specs.Image.{stages_in, rules_in, book_of}
use Rattle.book.specs.declared.Snapshot.{Snapshot}
use Rattle.derived.specs.Derived.{derived_book}
use Rattle.smaller.specs.Examples.{paper_smaller}
use Rattle.deriver.specs.Deriving.{derived_image, deriving_answer}
use Rattle.deriver.specs.Matching.{matching_of}
use Rattle.deriver.specs.Examples.{paper_chart, paper_start, paper_book, worth}
use Rattle.smaller_deriver.specs.Calling.{deriving_smaller}
use Rattle.listing.specs.Text.{listing_text}
use Rattle.listing.specs.Examples.{paper_text}
use Rattle.judge.specs.Checking.{checking}
use Rattle.judge.specs.Examples.{p9, p10, pair as pair_book}
use Rattle.runner.specs.Table.{Passes}
use Rattle.runner.specs.Completing.{completing}
use Rattle.runner.specs.Completion.{Open}
use Rattle.read_back.specs.ReadingBack.{reading_back}
use Rattle.read_back.specs.Table.{read_back}
use Rattle.promises.specs.Demand2.{written, ordered}
use Rattle.promises.specs.SmallerBooks.{written_smaller}
use Rattle.promises.specs.Looked.{full_chart, full_completion}

-- ---- P1 to P3, of what reading the paper's chart gives

module _ (r : Reading) where
  -- the markings after event 0, and then 1
  abbrev pub after0 : Marking
  after0 = (executing r.chart r.marking 0 0).marking

  abbrev pub after1 : Marking
  after1 = (executing r.chart after0 1 0).marking

  -- the matching snapshot is granted, and worth so much
  abbrev pub Worth : Marking → ℕ → Type 0
  Worth m n = ((matching_of r.chart m).answer ≡ granted) × (worth (matching_of r.chart m).snapshot.marks ≡ n)

  pub record OnChart : Type 0 where
    -- "P1: the chart's start matches 113. Executing 1 gives 12, place 0."; all that blocks it is condition 0
    pub p1 : Worth r.marking 113 × (executing r.chart r.marking 1 0 ≡ holding condition_wanting 0 1 0 r.marking)
    -- "P2: after 0: 119."
    pub p2 : ((executing r.chart r.marking 0 0).answer ≡ granted) × Worth after0 119
    -- "P3: then 1: 238, finished."
    pub p3 : ((executing r.chart after0 1 0).answer ≡ granted) × Worth after1 238 × (finishing r.chart after1 ≡ record { answer = granted; yes = true })

  -- the same by completions of a book along an order of each stage, from the snapshot that matching gives
  module _ (book : List ℕ) (order : ℕ → List ℕ) where
    abbrev pub snapshot0 : Snapshot
    snapshot0 = (matching_of r.chart r.marking).snapshot

    abbrev pub snapshot1 : Snapshot
    snapshot1 = (completing book (order 0) snapshot0 0).snapshot

    pub record OnBook : Type 0 where
      -- P1: stage 1 is closed
      pub p1 : completing book (order 1) snapshot0 1 ≡ record { answer = refusal stage_closed; snapshot = snapshot0 }
      -- P2: completing stage 0
      pub p2 : ((completing book (order 0) snapshot0 0).answer ≡ granted) × (worth snapshot1.marks ≡ 119)
      -- P3: then stage 1
      pub p3 : ((completing book (order 1) snapshot1 1).answer ≡ granted) × (worth (completing book (order 1) snapshot1 1).snapshot.marks ≡ 238)

  -- the book that derive writes into `bytes`, in the orders that check writes into `room`
  pub record ByBook (bytes room : List ℕ) : Type 0 where
    pub derives : deriving_answer r.chart (length bytes) ≡ granted
    pub passes : (checking (written r.chart bytes) 0 (length room) ≡ granted) × (checking (written r.chart bytes) 1 (length room) ≡ granted)
    pub runs : OnBook (written r.chart bytes) (ordered (written r.chart bytes) room)

  -- the smaller book that derive_smaller writes into `bytes` from the start marking, and its table: "cond 1 becomes `3 not 2 or`, the mark table 0 1 2 none 3 none none 4"
  pub record BySmaller (bytes : List ℕ) : Type 0 where
    pub derives : (deriving_smaller r.chart r.marking (length bytes)).answer ≡ granted
    pub book : book_of (written_smaller r.chart r.marking bytes) ≡ paper_smaller
    pub table : (deriving_smaller r.chart r.marking (length bytes)).table ≡ 0 ∷ (1 ∷ (2 ∷ (no_mark ∷ (3 ∷ (no_mark ∷ (no_mark ∷ (4 ∷ replicate (max_marks - 8) no_mark)))))))

pub record Rows : Type 0 where
  -- the chart of the paper, byte for byte, is the one that it describes, and its derived book is the paper's listing
  pub whole : reading whole_chart ≡ record { answer = granted; chart = paper_chart; marking = paper_start }
  pub book : derived_book paper_chart ≡ paper_book
  -- and its listing is the paper's text, byte for byte
  pub listing : listing_text whole_chart ≡ paper_text
  -- P1 to P3 of the chart, and of the book, given room for its 162 bytes and for the 7 of its 10 rules that count for each stage
  pub on_chart : OnChart (reading whole_chart)
  pub by_book : (bytes room : List ℕ) → 162 ≤ length bytes → 7 ≤ length room → ByBook (reading whole_chart) bytes room
  -- "P4: an event that is its own response is pending after it ran."
  pub p4 : executing (pair none (set none 0 1) none) (marking 0 0 1) 0 0 ≡ granting (marking 1 1 1)
  -- "P5: an excluded, unexecuted condition doesn't block. P6: nor an excluded pending milestone."
  pub p5 : executing (pair (set none 1 1) none none) (marking 0 0 2) 1 0 ≡ granting (marking 2 0 2)
  pub p6 : executing (pair none none (set none 1 1)) (marking 0 1 2) 1 0 ≡ granting (marking 2 1 2)
  -- "P7: group 0 with members 1, 2 is condition of 3: events 0 and 1 are conditions of 2."
  pub p7 : ((reading group_chart).answer ≡ granted) × ((reading group_chart).chart.conditions ≡ 0 ∷ (0 ∷ (3 ∷ replicate (max_events - 3) 0)))
  -- request (ix): the paper's chart read back from its book; and of P8's chart the exclusions, of which no inclusion overrules one: there are none
  pub back : reading_back (derived_image paper_chart) ≡ read_back granted paper_chart
  pub back_both : (reading_back (derived_image both_reading.chart)).chart.excludes ≡ replicate max_events 0
  -- request (xi): the paper's chart, given room for the 138 bytes of its smaller book
  pub smaller : (bytes : List ℕ) → 138 ≤ length bytes → BySmaller (reading whole_chart) bytes
  -- "P8: node 3 includes that group, excludes node 1", by request (xii) an accepted chart: event 2 includes 0 and 1, excludes 0, and after it both are included
  pub p8 : (reading both_chart ≡ both_reading) × (executing both_reading.chart both_reading.marking 2 0 ≡ granting (marking 4 0 7))
  -- "P9: one stage, one mark, "if not mark 0, set mark 0" alone: 25, place 0."
  pub p9 : checking p9 0 1 ≡ answer loop_found 0 0
  -- "P10: set and clear mark 1 on completions of 0 and 1 pass; both on 0: 26, places 0, 1."
  pub p10 : (checking (p10 0 1) 0 1 ≡ granted) × (checking (p10 0 1) 1 1 ≡ granted) × (checking (p10 0 0) 0 2 ≡ answer limit.clash 0 1)
  -- request (ii): "on completion of A if b, set c" beside "on completion of B if c, set b": A and B are 0 and 1, b and c are 2 and 3; it passes for A and for B
  pub pair_passes : (checking (pair_book 1 1) 0 1 ≡ granted) × (checking (pair_book 1 1) 1 1 ≡ granted)
  -- and without the trigger of the second rule: 25, place b, whichever stage is asked for, one that it has not too
  pub pair_loops : (checking (pair_book 0 0) 0 2 ≡ answer loop_found 2 0) × (checking (pair_book 0 0) 1 2 ≡ answer loop_found 2 0) × (checking (pair_book 0 0) 2 0 ≡ answer loop_found 2 0)
  -- request (vi): where event 0 of two includes both and has both as responses, completing it looks at 4n + 1 rules, which is 9
  pub full : (full_completion.answer.code ≡ 0) × (full_completion.evaluated ≡ 4 * full_chart.count + 1)
  -- "P11: no rules, empty order, open stage: same snapshot.": of every such book
  pub p11 : (s : List ℕ) → Passes s → rules_in s ≡ 0 → (snapshot : Snapshot) (stage : ℕ) → Open s snapshot stage
      → completing s [] snapshot stage ≡ record { answer = granted; snapshot = snapshot }
  -- "P12: a rule listed twice: 27.": in every order of every book that passes
  pub p12 : (s order : List ℕ) (i j : ℕ) → Passes s → i < j → j < length order → get_or order i 0 ≡ get_or order j 0 → (snapshot : Snapshot) (stage : ℕ) → stage < stages_in s
      → completing s order snapshot stage ≡ record { answer = refusal order_unfit; snapshot = snapshot }

module _ (bytes room : List ℕ) (h : 162 ≤ length bytes) (k : 7 ≤ length room) where
  abbrev c : FlatChart
  c = (reading whole_chart).chart

  abbrev m : Marking
  m = (reading whole_chart).marking

  abbrev s : List ℕ
  s = derived_image c
