-- Fitness as it was until request (xii), in the words of then, and what is left of it: fit then is fit now and no pair has both.
-- Its limits are those of now (request xiv). Assumes nothing.
use Rattle.std.specs.Prelude.{ℕ, zero, suc, ◌-◌, ◌<◌, ◌≡◌, refl, Bool, true, false, ◌&&◌, ◌↔◌, List, get_or, eqb, leb}
use Rattle.std.proofs.Common.{sym, ap, ap₂, ◌∙◌, eq-eqb, eqb-true}
use Rattle.std.proofs.Math.Bool.{and-true, and-false}
use Rattle.paper.specs.Limits.{max_events}
use Rattle.general.specs.Below.{every, every-at, every_of}
use Rattle.sets.specs.Set.{union, inter, minus, all_below}
use Rattle.sets.specs.Laws.{union-zero, apart-not, not-apart}
use Rattle.flat_chart.specs.Chart.{include, exclude, set_of, In}
use Rattle.flat_chart.specs.Tests.{allowed_at, row_spill, spill_at, spill_of, roles_from, fit_tables, fit_chart}
use Rattle.graph.specs.Fitness.{fit_marking, fit}
use Rattle.flat_chart.specs.Flat.{FlatChart}
use Rattle.graph.specs.Flat.{Marking}

-- "and no pair has both include and exclude", which fit means no more
abbrev pub Apart : FlatChart → Type 0
Apart c = (e f : ℕ) → e < max_events → In (set_of c include e) f → In (set_of c exclude e) f → ⊥

-- what one event's sets hold outside what they may, and both as included and excluded
unfoldable pub row_spill_then : ℕ → ℕ → ℕ → ℕ → ℕ → ℕ → ℕ
row_spill_then allowed a b d i x = union (minus (union (union (union (union a b) d) i) x) allowed) (inter i x)

module _ (n : ℕ) (a b d i x : List ℕ) where
  unfoldable pub spill_at_then : ℕ → ℕ
  spill_at_then e = row_spill_then (allowed_at (all_below n) e n) (get_or a e 0) (get_or b e 0) (get_or d e 0) (get_or i e 0) (get_or x e 0)

  unfoldable pub spill_of_then : ℕ → ℕ
  spill_of_then zero = zero
  spill_of_then (suc k) = union (spill_of_then k) (spill_at_then k)

unfoldable pub fit_tables_then : ℕ → FlatChart → Bool
fit_tables_then n c =
    eqb (spill_of_then n c.conditions c.responses c.milestones c.includes c.excludes max_events) 0 && eqb (roles_from c.roles n (max_events - n)) 0

unfoldable pub fit_chart_then : FlatChart → Bool
fit_chart_then c = leb 1 c.count && leb c.count max_events && fit_tables_then c.count c

unfoldable pub fit_then : FlatChart → Marking → Bool
fit_then c m = fit_marking c.count m && fit_chart_then c

-- ---- what is left of it

-- no event's sets hold one event both as included and excluded
unfoldable pub apart_test : List ℕ → List ℕ → ℕ → Bool
apart_test i x k = every k (λ e. eqb (inter (get_or i e 0) (get_or x e 0)) 0)

pub apart-so : (c : FlatChart) → (apart_test c.includes c.excludes max_events ≡ true) ↔ Apart c
unfolding apart_test
apart-so c =
    let test : ℕ → Bool = λ e. eqb (inter (get_or c.includes e 0) (get_or c.excludes e 0)) 0 in (
      λ t e f h. apart-not (set_of c include e) (set_of c exclude e) f (eqb-true _ 0 (every-at max_events test e t h)),
      λ p. every_of max_events test (λ e h. eq-eqb _ 0 (not-apart (set_of c include e) (set_of c exclude e) (λ f. p e f h))),
    )

spill-then : (n : ℕ) (a b d i x : List ℕ) (k : ℕ) → eqb (spill_of_then n a b d i x k) 0 ≡ (eqb (spill_of n a b d i x k) 0 && apart_test i x k)
unfolding spill_of_then spill_of spill_at_then spill_at row_spill_then row_spill apart_test every
spill-then n a b d i x zero = refl
spill-then n a b d i x (suc k) =
    union-zero (spill_of_then n a b d i x k) _
    ∙ ap₂ ◌&&◌ (spill-then n a b d i x k) (union-zero (spill_at n a b d i x k) (inter (get_or i k 0) (get_or x k 0)))
    ∙ crossed (eqb (spill_of n a b d i x k) 0) (apart_test i x k) (eqb (spill_at n a b d i x k) 0) (eqb (inter (get_or i k 0) (get_or x k 0)) 0)
    ∙ ap (λ (t : Bool). t && (apart_test i x k && eqb (inter (get_or i k 0) (get_or x k 0)) 0)) (sym (union-zero (spill_of n a b d i x k) (spill_at n a b d i x k)))
  where
    crossed : (p q r s : Bool) → ((p && q) && (r && s)) ≡ ((p && r) && (q && s))
    crossed true true r s = refl
    crossed true false r s = sym (and-false r)
    crossed false q r s = refl

-- a chart was fit exactly if it is fit and no pair has both
pub fit_then_lem : (c : FlatChart) → fit_chart_then c ≡ (fit_chart c && apart_test c.includes c.excludes max_events)
unfolding fit_chart_then fit_tables_then fit_chart fit_tables
fit_then_lem c =
    rw (spill-then c.count c.conditions c.responses c.milestones c.includes c.excludes max_events)
    (last (leb 1 c.count) (leb c.count max_events) (eqb (spill_of c.count c.conditions c.responses c.milestones c.includes c.excludes max_events) 0)
    (apart_test c.includes c.excludes max_events) (eqb (roles_from c.roles c.count (max_events - c.count)) 0))
  where
    last : (p q r s t : Bool) → (p && q && ((r && s) && t)) ≡ ((p && q && (r && t)) && s)
    last true true true true t = sym (and-true t)
    last true true true false t = sym (and-false t)
    last true true false s t = refl
    last true false r s t = refl
    last false q r s t = refl

-- so where none has, the tests are one
module _ (c : FlatChart) (p : Apart c) where
  pub chart-as-then : fit_chart c ≡ fit_chart_then c
  chart-as-then = sym (fit_then_lem c ∙ rw ((apart-so c).1 p) (and-true (fit_chart c)))

  pub fit-as-then : (m : Marking) → fit c m ≡ fit_then c m
  unfolding fit fit_then
  fit-as-then m = rw chart-as-then
