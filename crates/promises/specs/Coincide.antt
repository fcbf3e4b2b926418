-- "show that two results meeting it coincide", for the structs of words. The contracts of these calls speak of each set as one number; a struct holds its words, each of
-- 64 digits by its type. One number is one row of words, so that two results that meet one contract coincide word for word. Assumes nothing.
use Rattle.std.specs.Prelude.{ℕ, ◌*◌, ◌≡◌, Bool, List, length}
use Rattle.std.proofs.Common.{ap}
use Rattle.paper.specs.Limits.{max_events}
use Rattle.paper.specs.declared.Answer.{Answer}
use Rattle.wide.specs.Words.{Words}
use Rattle.wide.specs.Number.{words_of, set_words, number-injective}
use Rattle.wide.specs.declared.Set.{Set}
use Rattle.flat_chart.specs.Flat.{FlatChart}
use Rattle.flat_chart.specs.declared.FlatChart as code-chart
use Rattle.graph.specs.Flat.{Marking, OpenTest, Step}
use Rattle.graph.specs.Numbers.{marks_of, test_of, step_of}
use Rattle.graph.specs.Steps.{opening, executing}
use Rattle.graph.specs.declared.Marking as code-marking
use Rattle.graph.specs.declared.steps.OpenTest as code-test
use Rattle.graph.specs.declared.steps.Step as code_step
use Rattle.chart.specs.Numbers.{reading_of}
use Rattle.chart.specs.Reading.{reading}
use Rattle.chart.specs.declared.Reading as code-reading
use Rattle.replay.specs.Flat.{Replayed, Struck}
use Rattle.replay.specs.Numbers.{replayed_of, struck_of}
use Rattle.replay.specs.Replaying.{replaying, striking}
use Rattle.replay.specs.declared.Replayed as code-replayed
use Rattle.replay.specs.declared.Struck as code-struck
use Rattle.read_back.specs.Numbers.{back_of}
use Rattle.read_back.specs.ReadingBack.{reading_back}
use Rattle.read_back.specs.declared.ReadBack as code-back

-- ---- what the types give: every word has 64 digits, and a table has 1,024

pub record TableWords (t : List ℕ) : Type 0 where
  pub long : length t ≡ max_events * set_words
  pub words : Words t

pub record ChartWords (c : code-chart.FlatChart) : Type 0 where
  pub conditions : TableWords c.conditions
  pub responses : TableWords c.responses
  pub milestones : TableWords c.milestones
  pub includes : TableWords c.includes
  pub excludes : TableWords c.excludes

pub record MarkingWords (m : code-marking.Marking) : Type 0 where
  pub executed : Words (words_of m.executed)
  pub pending : Words (words_of m.pending)
  pub included : Words (words_of m.included)

pub record TestWords (t : code-test.OpenTest) : Type 0 where
  pub conditions : Words (words_of t.conditions)
  pub milestones : Words (words_of t.milestones)

pub record StepWords (s : code_step.Step) : Type 0 where
  pub marking : MarkingWords s.marking
  pub conditions : Words (words_of s.conditions)
  pub milestones : Words (words_of s.milestones)

pub record ReadingWords (r : code-reading.Reading) : Type 0 where
  pub chart : ChartWords r.chart
  pub marking : MarkingWords r.marking

pub record BackWords (r : code-back.ReadBack) : Type 0 where
  pub chart : ChartWords r.chart

pub record ReplayedWords (r : code-replayed.Replayed) : Type 0 where
  pub marking : MarkingWords r.marking
  pub conditions : Words (words_of r.conditions)
  pub milestones : Words (words_of r.milestones)

pub record StruckWords (s : code-struck.Struck) : Type 0 where
  pub marking : MarkingWords s.marking
  pub conditions : Words (words_of s.conditions)
  pub milestones : Words (words_of s.milestones)

abbrev marked : Set → Set → Set → code-marking.Marking
marked a b c = record { executed = a; pending = b; included = c }

abbrev tested : Answer → Set → Set → code-test.OpenTest
tested a c k = record { answer = a; conditions = c; milestones = k }

abbrev stepped : Answer → code-marking.Marking → Set → Set → code_step.Step
stepped a m c k = record { answer = a; marking = m; conditions = c; milestones = k }

abbrev replayed : Answer → ℕ → ℕ → code-marking.Marking → Bool → Set → Set → code-replayed.Replayed
replayed a k n m f c w = record { answer = a; code = k; steps = n; marking = m; finished = f; conditions = c; milestones = w }

abbrev struck : Answer → code-marking.Marking → Set → Set → code-struck.Struck
struck a m c k = record { answer = a; marking = m; conditions = c; milestones = k }

pub marking-same : (m n : code-marking.Marking) → MarkingWords m → MarkingWords n → marks_of m ≡ marks_of n → m ≡ n
marking-same m n p q e =
    let a : m.executed ≡ n.executed = number-injective m.executed n.executed p.executed q.executed (ap (λ (x : Marking). x.executed) e) in
    let b : m.pending ≡ n.pending = number-injective m.pending n.pending p.pending q.pending (ap (λ (x : Marking). x.pending) e) in
    let c : m.included ≡ n.included = number-injective m.included n.included p.included q.included (ap (λ (x : Marking). x.included) e) in
    let f : marked m.executed m.pending m.included ≡ marked n.executed n.pending n.included = cc in
    f

pub test-same : (s t : code-test.OpenTest) → TestWords s → TestWords t → test_of s ≡ test_of t → s ≡ t
test-same s t p q e =
    let a : s.answer ≡ t.answer = ap (λ (x : OpenTest). x.answer) e in
    let c : s.conditions ≡ t.conditions = number-injective s.conditions t.conditions p.conditions q.conditions (ap (λ (x : OpenTest). x.conditions) e) in
    let k : s.milestones ≡ t.milestones = number-injective s.milestones t.milestones p.milestones q.milestones (ap (λ (x : OpenTest). x.milestones) e) in
    let f : tested s.answer s.conditions s.milestones ≡ tested t.answer t.conditions t.milestones = cc in
    f

pub step_same : (s t : code_step.Step) → StepWords s → StepWords t → step_of s ≡ step_of t → s ≡ t
step_same s t p q e =
    let a : s.answer ≡ t.answer = ap (λ (x : Step). x.answer) e in
    let m : s.marking ≡ t.marking = marking-same s.marking t.marking p.marking q.marking (ap (λ (x : Step). x.marking) e) in
    let c : s.conditions ≡ t.conditions = number-injective s.conditions t.conditions p.conditions q.conditions (ap (λ (x : Step). x.conditions) e) in
    let k : s.milestones ≡ t.milestones = number-injective s.milestones t.milestones p.milestones q.milestones (ap (λ (x : Step). x.milestones) e) in
    let f : stepped s.answer s.marking s.conditions s.milestones ≡ stepped t.answer t.marking t.conditions t.milestones = cc in
    f

pub replayed-same : (r s : code-replayed.Replayed) → ReplayedWords r → ReplayedWords s → replayed_of r ≡ replayed_of s → r ≡ s
replayed-same r s p q e =
    let a : r.answer ≡ s.answer = ap (λ (x : Replayed). x.answer) e in
    let b : r.code ≡ s.code = ap (λ (x : Replayed). x.code) e in
    let n : r.steps ≡ s.steps = ap (λ (x : Replayed). x.steps) e in
    let m : r.marking ≡ s.marking = marking-same r.marking s.marking p.marking q.marking (ap (λ (x : Replayed). x.marking) e) in
    let d : r.finished ≡ s.finished = ap (λ (x : Replayed). x.finished) e in
    let c : r.conditions ≡ s.conditions = number-injective r.conditions s.conditions p.conditions q.conditions (ap (λ (x : Replayed). x.conditions) e) in
    let k : r.milestones ≡ s.milestones = number-injective r.milestones s.milestones p.milestones q.milestones (ap (λ (x : Replayed). x.milestones) e) in
    let f : replayed r.answer r.code r.steps r.marking r.finished r.conditions r.milestones
    ≡ replayed s.answer s.code s.steps s.marking s.finished s.conditions s.milestones = cc in
    f

pub struck-same : (s t : code-struck.Struck) → StruckWords s → StruckWords t → struck_of s ≡ struck_of t → s ≡ t
struck-same s t p q e =
    let a : s.answer ≡ t.answer = ap (λ (x : Struck). x.answer) e in
    let m : s.marking ≡ t.marking = marking-same s.marking t.marking p.marking q.marking (ap (λ (x : Struck). x.marking) e) in
    let c : s.conditions ≡ t.conditions = number-injective s.conditions t.conditions p.conditions q.conditions (ap (λ (x : Struck). x.conditions) e) in
    let k : s.milestones ≡ t.milestones = number-injective s.milestones t.milestones p.milestones q.milestones (ap (λ (x : Struck). x.milestones) e) in
    let f : struck s.answer s.marking s.conditions s.milestones ≡ struck t.answer t.marking t.conditions t.milestones = cc in
    f

-- ---- two results that meet the contract of a call

pub record Coincide : Type 0 where
  pub read : (image : List ℕ) (r s : code-reading.Reading) → ReadingWords r → ReadingWords s → reading_of r ≡ reading image → reading_of s ≡ reading image → r ≡ s
  pub execute : (c : FlatChart) (m : Marking) (e role : ℕ) (s t : code_step.Step) → StepWords s → StepWords t → step_of s ≡ executing c m e role → step_of t ≡ executing c m e role → s ≡ t
  pub open_test : (c : FlatChart) (m : Marking) (e : ℕ) (s t : code-test.OpenTest) → TestWords s → TestWords t → test_of s ≡ opening c m e → test_of t ≡ opening c m e → s ≡ t
  pub read_back : (book : List ℕ) (r s : code-back.ReadBack) → BackWords r → BackWords s → back_of r ≡ reading_back book → back_of s ≡ reading_back book → r ≡ s
  pub replay : (c : FlatChart) (m : Marking) (numbers : List ℕ) (r s : code-replayed.Replayed) → ReplayedWords r → ReplayedWords s
      → replayed_of r ≡ replaying c m numbers → replayed_of s ≡ replaying c m numbers → r ≡ s
  pub strike : (c : FlatChart) (m : Marking) (numbers : List ℕ) (position : ℕ) (s t : code-struck.Struck) → StruckWords s → StruckWords t
      → struck_of s ≡ striking c m numbers position → struck_of t ≡ striking c m numbers position → s ≡ t
