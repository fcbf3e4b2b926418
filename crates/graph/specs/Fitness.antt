-- What a fit marking is, the test of it and of chart and marking together, and that the tests say this. Assumes nothing.
use Rattle.std.specs.Prelude.{ℕ, ◌<◌, ◌≡◌, Bool, true, ◌&&◌, ◌||◌, ◌↔◌}
use Rattle.std.proofs.Common.{sym, ◌∙◌}
use Rattle.std.proofs.Math.Bool.{or-true}
use Rattle.general.specs.Cases.{both, either}
use Rattle.sets.specs.Set.{has, union, within}
use Rattle.sets.specs.Laws.{has-union, within-lt, lt-within}
use Rattle.flat_chart.specs.Chart.{In, Fit}
use Rattle.flat_chart.specs.Tests.{fit_chart}
use Rattle.flat_chart.specs.Fitness.{tested-fit, fit-tested}
use Rattle.flat_chart.specs.Flat.{FlatChart}
use Rattle.graph.specs.Flat.{Marking}

-- "A marking is three sets: Ex, Re, In; it is fit if no bit stands outside the count."
pub record FitMarking (n : ℕ) (m : Marking) : Type 0 where
  pub executed : (f : ℕ) → In m.executed f → f < n
  pub pending : (f : ℕ) → In m.pending f → f < n
  pub included : (f : ℕ) → In m.included f → f < n

-- what a refused reading gives
abbrev pub empty_marking : Marking
empty_marking = record { executed = 0; pending = 0; included = 0 }

-- ---- the tests

unfoldable pub fit_marking : ℕ → Marking → Bool
fit_marking n m = within n (union (union m.executed m.pending) m.included)

unfoldable pub fit : FlatChart → Marking → Bool
fit c m = fit_marking c.count m && fit_chart c

-- ---- the test says exactly that
module _ (n : ℕ) (m : Marking) where
  unfoldable marked : ℕ
  marked = union (union m.executed m.pending) m.included

  has-marked : (f : ℕ) → has marked f ≡ ((has m.executed f || has m.pending f) || has m.included f)
  unfolding marked
  has-marked f = simp has-union

  pub fit-marking : (fit_marking n m ≡ true) ↔ FitMarking n m
  unfolding fit_marking marked
  fit-marking = (
    λ h. record {
      executed = λ f i. within-lt n marked f h (has-marked f ∙ simp i);
      pending = λ f i. within-lt n marked f h (has-marked f ∙ simp (i, or-true));
      included = λ f i. within-lt n marked f h (has-marked f ∙ simp (i, or-true));
    },
    λ t. lt-within n marked (λ f i.
        either (has m.executed f || has m.pending f) (has m.included f) (sym (has-marked f) ∙ i)
        (λ i. either (has m.executed f) (has m.pending f) i (t.executed f) (t.pending f)) (t.included f)),
  )

pub fit-both : (c : FlatChart) (m : Marking) → fit c m ≡ true → Fit c × FitMarking c.count m
unfolding fit
fit-both c m h = let t = both (fit_marking c.count m) (fit_chart c) h in (tested-fit c t.1, (fit-marking c.count m).0 t.0)

pub both-fit : (c : FlatChart) (m : Marking) → Fit c → FitMarking c.count m → fit c m ≡ true
unfolding fit
both-fit c m t u = rw ((fit-marking c.count m).1 u, fit-tested c t)
