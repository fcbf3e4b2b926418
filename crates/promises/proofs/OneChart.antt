-- Request (x): no two charts behind one book, from the definition of the derived book and the short way; and charts with one book grant
-- the same events and step alike. Assumes nothing.
use Rattle.std.specs.Prelude.{ℕ, ◌≡◌, refl, List, [], ◌∷◌, length}
use Rattle.std.proofs.Common.{sym, ap, ◌∙◌, take_at}
use Rattle.flat_chart.specs.Chart.{Fit}
use Rattle.graph.specs.Steps.{executing}
use Rattle.flat_chart.specs.Flat.{FlatChart}
use Rattle.graph.specs.Flat.{Marking, Step}
use Rattle.chart.specs.Reading.{reading}
use Rattle.chart.specs.ReadingGives.{reading-fit}
use Rattle.derived.specs.OneChart.{SameRelations}
use Rattle.deriver.specs.Deriving.{derived_image, deriving_answer}
use Rattle.promises.specs.Demand1.{derive-granted}
use Rattle.promises.specs.Demand2.{written}
use Rattle.promises.specs.Lists.{Permitted}
use Rattle.promises.specs.OneChart.{no-two-charts, step-alike, StepAlike, SameBookAlike}

pub steps_alike : (c d : FlatChart) → Fit c → Fit d → SameRelations c d → (m : Marking) (steps : List (ℕ × ℕ)) → Permitted c steps → Permitted d steps
    → StepAlike c d m steps
steps_alike c d x y s m [] p q = tt
steps_alike c d x y s m (t ∷ steps) p q = (
  step-alike c d x y s m t.0 t.1 t.1 p.0 q.0,
  steps_alike c d x y s (executing c m t.0 t.1).marking steps p.1 q.1,
)

-- what a granted derivation has written is the image
wrote : (c : FlatChart) (room : List ℕ) → (deriving_answer c (length room)).code ≡ 0 → written c room ≡ derived_image c
wrote c room e = rw (derive-granted c room e) (take_at (derived_image c) _ (length (derived_image c)) refl)

pub same-book-alike : (image other room more : List ℕ) → (reading image).answer.code ≡ 0 → (reading other).answer.code ≡ 0
    → (deriving_answer (reading image).chart (length room)).code ≡ 0 → (deriving_answer (reading other).chart (length more)).code ≡ 0
    → written (reading image).chart room ≡ written (reading other).chart more → SameBookAlike image other
same-book-alike image other room more a b g h q =
    record {
      relations = s;
      grants = λ m e r t p u. let z = ap (λ (k : Step). k.answer.code) (step-alike c d x y s m e r t p u) in (λ w. sym z ∙ w, λ w. z ∙ w);
      steps = steps_alike c d x y s;
    }
  where
    c : FlatChart
    c = (reading image).chart

    d : FlatChart
    d = (reading other).chart

    x : Fit c
    x = (reading-fit image a).0

    y : Fit d
    y = (reading-fit other b).0

    s : SameRelations c d
    s = no-two-charts c d x y (sym (wrote c room g) ∙ q ∙ wrote d more h)
