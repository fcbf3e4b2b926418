-- Request (xii), of what the calls give: inclusion wins, the book has one rule for a pair in both tables, 9 is never given, and every chart that was accepted before reads,
-- derives and steps as it did. Assumes nothing.
use Rattle.std.specs.Prelude.{ℕ, ◌<◌, ◌≡◌, false, not, cond, ◌↔◌, List, ◌++◌, length, drop, leb}
use Rattle.std.proofs.Common.{ap, arith}
use Rattle.paper.specs.Limits.{include_exclude, no_such_event, unfit, book_room}
use Rattle.paper.specs.Answers.{answer, granted, refusal}
use Rattle.paper.specs.declared.Answer.{Answer}
use Rattle.general.specs.Lists.{All}
use Rattle.flat_chart.specs.Chart.{include, exclude, set_of, In, Fit, row_of}
use Rattle.graph.specs.Before.{Apart, fit_chart_then, fit_then, chart-as-then, fit-as-then}
use Rattle.graph.specs.Steps.{refusing, stepping_by, executing, after}
use Rattle.graph.specs.Execution.{Executed, granted-executed}
use Rattle.graph.specs.Overruled.{inclusion-wins, exclusion-stands, standing, standing-fit, standing-steps}
use Rattle.flat_chart.specs.Flat.{FlatChart}
use Rattle.graph.specs.Flat.{Marking, Step}
use Rattle.chart.specs.Reading.{reading, granted_reading}
use Rattle.chart.specs.ReadingGives.{never-nine}
use Rattle.chart.specs.Before.{reading_then, reads-as-then, nine-taken, apart-then}
use Rattle.derived.specs.Derived.{on, included_mark, derived_rules}
use Rattle.derived.specs.Overruled.{clears-only, standing-book}
use Rattle.deriver.specs.Deriving.{derived_image, deriving_answer, derived_room}
use Rattle.book.specs.ImageOf.{image_of}

-- ---- executing and deriving as they were, in the words of then, which wanted the pairs of both tables apart: only what fit means has moved

unfoldable pub executing_apart : FlatChart → Marking → ℕ → ℕ → Step
executing_apart c m e r =
    cond (not (fit_then c m)) (refusing unfit 0 m)
    (cond (leb c.count e) (refusing no_such_event 0 m)
    (stepping_by m e (row_of c e) r))

unfoldable pub deriving_apart : FlatChart → ℕ → Answer
deriving_apart c room = cond (fit_chart_then c) (cond (leb (length (derived_image c)) room) granted (answer book_room (length (derived_image c)) 0)) (refusal unfit)

unfoldable pub derived_apart : FlatChart → List ℕ → List ℕ
derived_apart c room = cond (fit_chart_then c) (cond (leb (length (derived_image c)) (length room)) (derived_image c ++ drop (length (derived_image c)) room) room) room

module _ (c : FlatChart) (p : Apart c) where
  steps-as-then : (m : Marking) (e r : ℕ) → executing c m e r ≡ executing_apart c m e r
  unfolding executing executing_apart
  steps-as-then m e r = rw (fit-as-then c p m)

  derives-as-then : (room : ℕ) → deriving_answer c room ≡ deriving_apart c room
  unfolding deriving_answer deriving_apart
  derives-as-then room = rw (chart-as-then c p)

  writes-as-then : (room : List ℕ) → derived_room c room ≡ derived_apart c room
  unfolding derived_room derived_apart
  writes-as-then room = rw (chart-as-then c p)

-- a chart that was accepted reads to the same flat chart and start marking, gives the same book and steps alike
pub record AsThen (image : List ℕ) : Type 0 where
  pub reads : reading image ≡ reading_then image
  pub derives : (room : ℕ) → deriving_answer (reading image).chart room ≡ deriving_apart (reading image).chart room
  pub writes : (room : List ℕ) → derived_room (reading image).chart room ≡ derived_apart (reading image).chart room
  pub steps : (m : Marking) (e r : ℕ) → executing (reading image).chart m e r ≡ executing_apart (reading image).chart m e r

pub as-then : (image : List ℕ) → ((reading_then image).answer.code ≡ include_exclude → ⊥) → AsThen image
as-then image n =
    let p = apart-then image n in
    record {
      reads = reads-as-then image n;
      derives = derives-as-then (reading image).chart p;
      writes = writes-as-then (reading image).chart p;
      steps = steps-as-then (reading image).chart p;
    }

-- ---- the request

pub record IncludeWins : Type 0 where
  -- "Code 9 is never given any more, which is to be shown"
  pub never : (image : List ℕ) → (reading image).answer.code ≡ include_exclude → ⊥
  -- a granted step is Definition 3's, inclusion last: what the event includes is included, and what it excludes is not where no inclusion overrules it
  pub definition3 : (c : FlatChart) (m : Marking) (e r : ℕ) → (executing c m e r).answer.code ≡ 0 → Executed c m e (executing c m e r).marking
  pub wins : (c : FlatChart) (m : Marking) (e r : ℕ) → (executing c m e r).answer.code ≡ 0 → (f : ℕ) → In (set_of c include e) f → In (executing c m e r).marking.included f
  pub stands : (c : FlatChart) (m : Marking) (e r : ℕ) → (executing c m e r).answer.code ≡ 0 → (f : ℕ) → In (set_of c exclude e) f → (In (set_of c include e) f → ⊥)
      → In (executing c m e r).marking.included f → ⊥
  -- "The deriver writes the clearing rule only where there is no include.": the book is without it exactly if an inclusion overrules every exclusion of the pair
  pub clears : (c : FlatChart) (e f : ℕ) → e < c.count → f < c.count
      → All (λ r. r ≡ on e false (included_mark c.count f) → ⊥) (derived_rules c) ↔ (In (set_of c exclude e) f → In (set_of c include e) f)
  -- a fit chart without its overruled exclusions is fit, has the same book and steps alike
  pub overruled : (c : FlatChart) → Fit c → Fit (standing c) × (derived_image (standing c) ≡ derived_image c) × ((m : Marking) (e : ℕ) → e < c.count → after (standing c) m e ≡ after c m e)
  -- charts that were accepted before, and all others but those that 9 was given for, are as they were; those are accepted
  pub accepted : (image : List ℕ) → (reading_then image).answer.code ≡ 0 → AsThen image
  pub others : (image : List ℕ) → ((reading_then image).answer.code ≡ include_exclude → ⊥) → AsThen image
  pub taken : (image : List ℕ) → (reading_then image).answer.code ≡ include_exclude → reading image ≡ granted_reading image

pub include-wins : IncludeWins
include-wins =
    record {
      never = never-nine;
      definition3 = granted-executed;
      wins = λ c m e r g. inclusion-wins (granted-executed c m e r g);
      stands = λ c m e r g. exclusion-stands (granted-executed c m e r g);
      clears = clears-only;
      overruled = λ c t. (
        standing-fit c t,
        ap image_of (standing-book c t.few),
        λ m e h. let l = t.few in standing-steps c m e (omega arith),
      );
      accepted = λ image z. as-then image (λ n. omega arith);
      others = as-then;
      taken = nine-taken;
    }
