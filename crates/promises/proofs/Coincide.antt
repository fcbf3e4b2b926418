-- "show that two results meeting it coincide", for the structs of words. The contracts of these calls speak of each set as one number; a struct holds its words, each of
-- 64 digits by its type. One number is one row of words, so that two results that meet one contract coincide word for word. Assumes nothing.
use Rattle.std.specs.Prelude.{ℕ, ◌≡◌, List}
use Rattle.std.proofs.Common.{ap}
use Rattle.paper.specs.Limits.{max_events}
use Rattle.paper.specs.declared.Answer.{Answer}
use Rattle.general.specs.Cases.{coincide}
use Rattle.wide.specs.Number.{rows_of, rows-injective}
use Rattle.flat_chart.specs.Flat.{FlatChart}
use Rattle.flat_chart.specs.Numbers.{flat_of}
use Rattle.flat_chart.specs.declared.FlatChart as code-chart
use Rattle.graph.specs.declared.Marking as code-marking
use Rattle.chart.specs.Flat.{Reading}
use Rattle.chart.specs.Numbers.{reading_of}
use Rattle.chart.specs.declared.Reading as code-reading
use Rattle.read_back.specs.Flat.{ReadBack}
use Rattle.read_back.specs.Numbers.{back_of}
use Rattle.read_back.specs.declared.ReadBack as code-back
use Rattle.promises.specs.Coincide.{TableWords, ChartWords, ReadingWords, BackWords, marking-same, test-same, step_same, replayed-same, struck-same, Coincide}

-- ---- each struct, told by its fields

abbrev charted : ℕ → List ℕ → List ℕ → List ℕ → List ℕ → List ℕ → List ℕ → code-chart.FlatChart
charted n a b d i x o = record { count = n; conditions = a; responses = b; milestones = d; includes = i; excludes = x; roles = o }

abbrev read : Answer → code-chart.FlatChart → code-marking.Marking → code-reading.Reading
read a c m = record { answer = a; chart = c; marking = m }

abbrev back : Answer → code-chart.FlatChart → code-back.ReadBack
back a c = record { answer = a; chart = c }

-- ---- equal numbers are equal words

pub table_same : (t u : List ℕ) → TableWords t → TableWords u → rows_of t ≡ rows_of u → t ≡ u
table_same t u p q e = rows-injective max_events t u p.words q.words p.long q.long e

pub chart-same : (c d : code-chart.FlatChart) → ChartWords c → ChartWords d → flat_of c ≡ flat_of d → c ≡ d
chart-same c d p q e =
    let n : c.count ≡ d.count = ap (λ (x : FlatChart). x.count) e in
    let f : c.conditions ≡ d.conditions = table_same c.conditions d.conditions p.conditions q.conditions (ap (λ (x : FlatChart). x.conditions) e) in
    let g : c.responses ≡ d.responses = table_same c.responses d.responses p.responses q.responses (ap (λ (x : FlatChart). x.responses) e) in
    let h : c.milestones ≡ d.milestones = table_same c.milestones d.milestones p.milestones q.milestones (ap (λ (x : FlatChart). x.milestones) e) in
    let i : c.includes ≡ d.includes = table_same c.includes d.includes p.includes q.includes (ap (λ (x : FlatChart). x.includes) e) in
    let x : c.excludes ≡ d.excludes = table_same c.excludes d.excludes p.excludes q.excludes (ap (λ (x : FlatChart). x.excludes) e) in
    let o : c.roles ≡ d.roles = ap (λ (x : FlatChart). x.roles) e in
    let r : charted c.count c.conditions c.responses c.milestones c.includes c.excludes c.roles
    ≡ charted d.count d.conditions d.responses d.milestones d.includes d.excludes d.roles = cc in
    r

pub reading-same : (r s : code-reading.Reading) → ReadingWords r → ReadingWords s → reading_of r ≡ reading_of s → r ≡ s
reading-same r s p q e =
    let a : r.answer ≡ s.answer = ap (λ (x : Reading). x.answer) e in
    let c : r.chart ≡ s.chart = chart-same r.chart s.chart p.chart q.chart (ap (λ (x : Reading). x.chart) e) in
    let m : r.marking ≡ s.marking = marking-same r.marking s.marking p.marking q.marking (ap (λ (x : Reading). x.marking) e) in
    let f : read r.answer r.chart r.marking ≡ read s.answer s.chart s.marking = cc in
    f

pub back-same : (r s : code-back.ReadBack) → BackWords r → BackWords s → back_of r ≡ back_of s → r ≡ s
back-same r s p q e =
    let a : r.answer ≡ s.answer = ap (λ (x : ReadBack). x.answer) e in
    let c : r.chart ≡ s.chart = chart-same r.chart s.chart p.chart q.chart (ap (λ (x : ReadBack). x.chart) e) in
    let f : back r.answer r.chart ≡ back s.answer s.chart = cc in
    f

pub words-coincide : Coincide
words-coincide =
    record {
      read = λ image r s p q e f. reading-same r s p q (coincide e f);
      execute = λ c m e role s t p q g h. step_same s t p q (coincide g h);
      open_test = λ c m e s t p q g h. test-same s t p q (coincide g h);
      read_back = λ book r s p q e f. back-same r s p q (coincide e f);
      replay = λ c m numbers r s p q e f. replayed-same r s p q (coincide e f);
      strike = λ c m numbers position s t p q e f. struck-same s t p q (coincide e f);
    }
