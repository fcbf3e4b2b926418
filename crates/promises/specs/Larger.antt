-- Request (xiv), over the bytes: "each one accepted before is accepted with the same meaning". Charts and books as they were judged with the limits of then, and that the
-- larger limits leave what they gave. What the flat sets, the derived book, firing, loops and clashes are names no limit. The fit test, the lowest event of a set, the matching
-- snapshot and 28 name one: LargerCharts says that stepping, counting, replaying, matching and deriving give what they gave, LargerSnapshots that completing does. Assumes nothing.
use Rattle.std.specs.Prelude.{ℕ, ◌+◌, ◌*◌, ◌≤◌, ◌<◌, ◌≡◌, Bool, true, not, cond, ◌&&◌, List, [], eqb, ltb, leb, length, get_or}
use Rattle.std.proofs.Common.{arith, le-leb, leb-true}
use Rattle.paper.specs.Limits.{max_events, max_marks, max_rules, max_conditions, max_words, book_header, book_short, book_count, book_length, index_unfit}
use Rattle.paper.specs.Answers.{granted, refusal}
use Rattle.paper.specs.declared.Answer.{Answer}
use Rattle.general.specs.Cases.{cases, both}
use Rattle.wide.specs.Number.{set_words}
use Rattle.wide.specs.declared.Set.{Set}
use Rattle.flat_chart.specs.Chart.{Kind, condition, response, milestone, include, exclude}
use Rattle.flat_chart.specs.declared.FlatChart as code-chart
use Rattle.graph.specs.Numbers.{marks_of, step_of}
use Rattle.graph.specs.declared.Marking as code-marking
use Rattle.graph.specs.declared.steps.Step as code_step
use Rattle.chart.specs.Larger.{events_then, reading_smaller, larger_reading, Low}
use Rattle.chart.specs.Numbers.{reading_of}
use Rattle.chart.specs.Reading.{reading}
use Rattle.chart.specs.declared.Reading as code-reading
use Rattle.book.specs.Book.{Book}
use Rattle.book.specs.Image.{stages_in, book_of}
use Rattle.book.specs.Judging.{counts_of, counts_fit, layout_fits, body_answer, image_answer}
use Rattle.book.specs.declared.Counts.{Counts}
use Rattle.derived.specs.Largest.{Largest}
use Rattle.judge.specs.Checking.{rules_answer, book_answer, stage_answer, checking}
use Rattle.runner.specs.Table.{Passes}
use Rattle.index.specs.Index.{order_of}
use Rattle.index_fit.specs.Stored.{index_image_then}
use Rattle.indexed.specs.Indexed.{index_answer}
use Rattle.promises.specs.Coincide.{MarkingWords, StepWords}

-- ---- a book, judged by the limits of then

abbrev pub marks_then : ℕ
marks_then = 256

abbrev pub rules_then : ℕ
rules_then = 8384

abbrev pub conditions_then : ℕ
conditions_then = 256

abbrev pub words_then : ℕ
words_then = 41024

unfoldable pub counts_then : Counts → Bool
counts_then h =
    leb h.stages events_then && leb h.stages h.marks && leb h.marks marks_then && leb h.rules rules_then
    && leb h.conditions conditions_then && leb h.words words_then

unfoldable pub image_then : List ℕ → Answer
image_then s =
    cond (ltb (length s) book_header) (refusal book_short)
    (cond (not (counts_then (counts_of s))) (refusal book_count)
    (cond (not (layout_fits s (counts_of s))) (refusal book_length) (body_answer s (counts_of s))))

unfoldable pub book_then : List ℕ → Answer
book_then s = cond (eqb (image_then s).code 0) (rules_answer (book_of s)) (image_then s)

unfoldable pub checking_then : List ℕ → ℕ → ℕ → Answer
checking_then s stage room = cond (eqb (book_then s).code 0) (stage_answer s stage room) (book_then s)

-- ---- the limits of then imply those of now

wider : (n m k : ℕ) → m ≤ k → leb n m ≡ true → leb n k ≡ true
wider n m k h t = let l : n ≤ m = leb-true n m t in le-leb n k (omega arith)

counts-still : (h : Counts) → counts_then h ≡ true → counts_fit h ≡ true
unfolding counts_then counts_fit
counts-still h t =
    let f = both _ (leb h.words words_then) t in
    let e = both _ (leb h.conditions conditions_then) f.0 in
    let d = both _ (leb h.rules rules_then) e.0 in
    let c = both _ (leb h.marks marks_then) d.0 in
    let b = both (leb h.stages events_then) (leb h.stages h.marks) c.0 in
    rw (
      wider h.stages events_then max_events (omega arith) b.0,
      b.1,
      wider h.marks marks_then max_marks (omega arith) c.1,
      wider h.rules rules_then max_rules (omega arith) d.1,
      wider h.conditions conditions_then max_conditions (omega arith) e.1,
      wider h.words words_then max_words (omega arith) f.1,
    )

-- where it was not refused for its counts, every answer is the one of then
pub image-still : (s : List ℕ) → ((image_then s).code ≡ book_count → ⊥) → image_then s ≡ image_answer s
unfolding image_then image_answer
image-still s n =
    cases (ltb (length s) book_header) (λ t. rw t)
    (λ t. cases (counts_then (counts_of s)) (λ u. rw (t, u, counts-still (counts_of s) u)) (λ u. absurd (n (rw (t, u)))))

pub book-still : (s : List ℕ) → ((image_then s).code ≡ book_count → ⊥) → book_then s ≡ book_answer s
unfolding book_then book_answer
book-still s n = rw (image-still s n)

-- ---- the words of a reading

abbrev pub word_table : code-chart.FlatChart → Kind → List ℕ
word_table c condition = c.conditions
word_table c response = c.responses
word_table c milestone = c.milestones
word_table c include = c.includes
word_table c exclude = c.excludes

-- a set's second, third and fourth word
pub record UpperEmpty (s : Set) : Type 0 where
  pub second : s.w1 ≡ 0
  pub third : s.w2 ≡ 0
  pub fourth : s.w3 ≡ 0

-- words 4e + 1 to 4e + 3 of each table are 0, and so are the upper words of the marking
pub record LowWords (r : code-reading.Reading) : Type 0 where
  pub rows : (κ : Kind) (e i : ℕ) → e < max_events → 1 ≤ i → i < set_words → get_or (word_table r.chart κ) (e * set_words + i) 0 ≡ 0
  pub executed : UpperEmpty r.marking.executed
  pub pending : UpperEmpty r.marking.pending
  pub included : UpperEmpty r.marking.included

pub record Larger : Type 0 where
  -- a chart that was accepted reads as it did, its tables longer by what is empty
  pub charts : (image : List ℕ) → (reading_smaller image).answer.code ≡ 0 → reading image ≡ larger_reading (reading_smaller image)
  -- a chart of at most 64 events has every set in its lowest word
  pub low : (image : List ℕ) → (reading image).answer.code ≡ 0 → (reading image).chart.count ≤ events_then → Low (reading image)
  -- .. and nothing in its upper words, in whatever the reader gives back
  pub low_words : (image : List ℕ) (r : code-reading.Reading) → reading_of r ≡ reading image → r.answer.code ≡ 0 → r.chart.count ≤ events_then → LowWords r
  -- a book that was not refused for its counts is judged as it was, its loops and clashes too, and the check of each stage gives what it gave
  pub books : (s : List ℕ) → ((image_then s).code ≡ book_count → ⊥) → image_then s ≡ image_answer s
  pub rules : (s : List ℕ) → ((image_then s).code ≡ book_count → ⊥) → book_then s ≡ book_answer s
  pub checks : (s : List ℕ) (stage room : ℕ) → ((image_then s).code ≡ book_count → ⊥) → checking_then s stage room ≡ checking s stage room
  -- "a stored index that lists any rule gets 34", beside its own book and beside any other; its own that lists none is still fit
  pub stored_other : (s : List ℕ) → Passes s → (b : Book) (stage : ℕ) → stage < b.stages → (order_of b stage ≡ [] → ⊥) → index_answer s (index_image_then b) ≡ refusal index_unfit
  pub stored : (s : List ℕ) → Passes s → (stage : ℕ) → stage < stages_in s → (order_of (book_of s) stage ≡ [] → ⊥) → index_answer s (index_image_then (book_of s)) ≡ refusal index_unfit
  pub stored_empty : (s : List ℕ) → Passes s → ((stage : ℕ) → stage < stages_in s → order_of (book_of s) stage ≡ []) → index_answer s (index_image_then (book_of s)) ≡ granted
  -- a marking or a step that is given back by its numbers is given back word for word
  pub markings : (m n : code-marking.Marking) → MarkingWords m → MarkingWords n → marks_of m ≡ marks_of n → m ≡ n
  pub steps : (s t : code_step.Step) → StepWords s → StepWords t → step_of s ≡ step_of t → s ≡ t
  -- "131,840 rules .. 655,616 words": the largest derived book has exactly these
  pub most : Largest
