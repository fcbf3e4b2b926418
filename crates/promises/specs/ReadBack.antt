-- Request (ix): reading a book back. What derive writes is read back to its chart, what is read back derives to the same bytes, and 33 is
-- given exactly where no fit chart has them. Assumes nothing.
use Rattle.std.specs.Prelude.{ℕ, ◌≤◌, ◌≡◌, refl, ◌↔◌, List, length, replicate}
use Rattle.std.proofs.Common.{ap, ◌∙◌}
use Rattle.paper.specs.Limits.{max_events, not_derived}
use Rattle.paper.specs.Answers.{granted}
use Rattle.paper.specs.declared.Answer.{Answer}
use Rattle.flat_chart.specs.Chart.{Kind, table, Fit}
use Rattle.graph.specs.Overruled.{standing}
use Rattle.flat_chart.specs.Flat.{FlatChart}
use Rattle.chart.specs.Reading.{reading}
use Rattle.chart.specs.ReadingGives.{reading-fit}
use Rattle.judge.specs.Checking.{BookPasses}
use Rattle.derived.specs.OneChart.{SameRelations}
use Rattle.deriver.specs.Deriving.{derived_image, deriving_answer}
use Rattle.gathering.specs.Behind.{Sized, bare, bare-table}
use Rattle.gathering.proofs.Behind.{bare-same}
use Rattle.read_back.specs.ReadingBack.{reading_back}
use Rattle.read_back.specs.Table.{Writes, read_back, back-granted, granted-back, granted-roles, foreign-told, told-foreign}
use Rattle.read_back.specs.Flat.{ReadBack}
use Rattle.promises.specs.Demand2.{passes, written, granted_bytes}

-- what derive writes for a chart that was read, read back, and derived again, each into room enough
pub record ThereAndBack (image room more : List ℕ) : Type 0 where
  -- the book that derive wrote is accepted
  pub accepted : (reading_back (written (reading image).chart room)).answer ≡ granted
  -- its chart has the count and the relations of the chart that was read, of exclusions those that no inclusion overrules
  pub same : SameRelations (reading_back (written (reading image).chart room)).chart (reading image).chart
  -- deriving from it is granted, and the second book is the first, byte for byte
  pub derives : deriving_answer (reading_back (written (reading image).chart room)).chart (length more) ≡ granted
  pub again : written (reading_back (written (reading image).chart room)).chart more ≡ written (reading image).chart room

pub record ReadsBackAsPromised : Type 0 where
  -- "accept exactly the books that the deriver writes for some fit flat chart, and give that chart without marking or roles"; request (xii): without the exclusions that an
  -- inclusion overrules
  pub back : (c : FlatChart) → Fit c → reading_back (derived_image c) ≡ read_back granted (bare c)
  pub same : (c : FlatChart) → Fit c → SameRelations (reading_back (derived_image c)).chart c
  pub tables : (c : FlatChart) → Fit c → Sized c → (k : Kind) → table (reading_back (derived_image c)).chart k ≡ table (standing c) k
  -- what is read back is fit and names no role; "deriving from it writes the same bytes again"
  pub fit : (book : List ℕ) → (reading_back book).answer.code ≡ 0 → Fit (reading_back book).chart
  pub unnamed : (book : List ℕ) → (reading_back book).answer.code ≡ 0 → (reading_back book).chart.roles ≡ replicate max_events 0
  pub again : (book : List ℕ) → (reading_back book).answer.code ≡ 0 → derived_image (reading_back book).chart ≡ book
  -- "33, not a derived book, after 20 to 26"
  pub foreign : (book : List ℕ) → ((reading_back book).answer.code ≡ not_derived) ↔ (BookPasses book × ((c : FlatChart) → Fit c → derived_image c ≡ book → ⊥))
  -- through the calls: read a chart, derive, read back, derive
  pub calls : (image room more : List ℕ) → (reading image).answer.code ≡ 0 → length (derived_image (reading image).chart) ≤ length room
      → length (derived_image (reading image).chart) ≤ length more → ThereAndBack image room more

module _ (c : FlatChart) (fit : Fit c) where
  derived-back : reading_back (derived_image c) ≡ read_back granted (bare c)
  derived-back = back-granted (derived_image c) (passes c fit) c (record { fit = fit; bytes = refl })

  derived-chart : (reading_back (derived_image c)).chart ≡ bare c
  derived-chart = ap (λ (r : ReadBack). r.chart) derived-back

  derived-relations : SameRelations (reading_back (derived_image c)).chart c
  derived-relations = rw derived-chart (bare-same c)

there_and_back : (image room more : List ℕ) → (reading image).answer.code ≡ 0 → length (derived_image (reading image).chart) ≤ length room
    → length (derived_image (reading image).chart) ≤ length more → ThereAndBack image room more
there_and_back image room more ok h l =
    record {
      accepted = rw first (ap (λ (r : ReadBack). r.answer) (derived-back c f));
      same = rw first (derived-relations c f);
      derives = rw first second.0;
      again = rw first whole;
    }
  where
    c : FlatChart
    c = (reading image).chart

    f : Fit c
    f = (reading-fit image ok).0

    first : written c room ≡ derived_image c
    first = (granted_bytes c f room h).1

    d : FlatChart
    d = (reading_back (derived_image c)).chart

    writes : Writes d (derived_image c)
    writes = (granted-back (derived_image c) (ap (λ (r : ReadBack). r.answer.code) (derived-back c f))).1

    second : (deriving_answer d (length more) ≡ granted) × (written d more ≡ derived_image d)
    second = granted_bytes d writes.fit more (rw writes.bytes l)

    whole : written d more ≡ derived_image c
    whole = second.1 ∙ writes.bytes

pub reads-back-as-promised : ReadsBackAsPromised
reads-back-as-promised =
    record {
      back = derived-back;
      same = derived-relations;
      tables = λ c f s k. rw (derived-chart c f) (bare-table c s k);
      fit = λ book e. (granted-back book e).1.fit;
      unnamed = granted-roles;
      again = λ book e. (granted-back book e).1.bytes;
      foreign = λ book. (
        λ e. let t = foreign-told book e in (t.0, λ c f q. t.1 c (record { fit = f; bytes = q })),
        λ t. ap (λ (a : Answer). a.code) (told-foreign book t.0 (λ c w. t.1 c w.fit w.bytes)),
      );
      calls = there_and_back;
    }
