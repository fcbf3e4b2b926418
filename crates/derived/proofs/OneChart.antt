-- "No two charts behind one book": two fit charts with one derived book have one event count, the same four relations and, by request (xii), "the exclusions that no inclusion
-- overrules". Assumes nothing.
use Rattle.std.specs.Prelude.{ℕ, ◌≤◌, ◌<◌, ◌≡◌, refl, ltb}
use Rattle.std.proofs.Common.{sym, ap, ◌∙◌, ltb-true, ltb-false}
use Rattle.general.specs.Cases.{cases, same_test}
use Rattle.general.specs.Lists.{All}
use Rattle.sets.specs.Set.{has}
use Rattle.sets.specs.Laws.{ext}
use Rattle.flat_chart.specs.Chart.{Kind, condition, response, milestone, include, exclude, In, Fit}
use Rattle.flat_chart.specs.Flat.{FlatChart}
use Rattle.derived.specs.Derived.{executed_mark, included_mark, answered_mark, derived_rules, derived_text, derived_book}
use Rattle.derived.specs.Overruled.{standing_of, stands-in, stands-past}
use Rattle.derived.specs.Meaning.{Says, rules-say, of-include, of-exclude, of-response, Names}
use Rattle.derived.proofs.Meaning.{text-names, of-condition, of-milestone}
use Rattle.derived.specs.OneChart.{SameRelations, OneBook, one-book}

-- what the one chart has, the other has
module _ (c d : FlatChart) (fit : Fit c) (fitd : Fit d) (o : OneBook c d) (e f : ℕ) (h : e < c.count) where
  there : (k : Kind) → In (standing_of c k e) f → f < d.count
  there k m = rw o.count at (fit.inside k e f h (stands-in c k e f m))

  said : All (Says d) (derived_rules c)
  said = rw o.rules (rules-say d)

  named : All (Names d e) (derived_text c e)
  named = rw (o.texts e h) (text-names d fitd e (rw o.count at h))

  mark : (g : ℕ → ℕ → ℕ) → g c.count f ≡ g d.count f
  mark g = ap (λ (n : ℕ). g n f) o.count

  carried : (k : Kind) → In (standing_of c k e) f → In (standing_of d k e) f
  carried condition m = (of-condition c fit e h (Names d e) named f m).conditions f (there condition m) (mark executed_mark)
  carried milestone m = (of-milestone c fit e h (Names d e) named f m).milestones f (there milestone m) (mark answered_mark)
  carried response m = (of-response c fit (Says d) said e f h m).responds e f (there response m) refl refl (mark answered_mark)
  carried include m = (of-include c fit (Says d) said e f h m).includes e f (there include m) refl refl (mark included_mark)
  carried exclude m = (of-exclude c fit (Says d) said e f h m).excludes e f (there exclude m) refl refl (mark included_mark)

pub no-two-charts : (c d : FlatChart) → Fit c → Fit d → derived_book c ≡ derived_book d → SameRelations c d
no-two-charts c d x y q =
    record {
      count = o.count;
      relations = λ k e l. cases (ltb e c.count)
          (λ t. let h : e < c.count = ltb-true e c.count t in
          ext (standing_of c k e) (standing_of d k e) (λ f.
          same_test (has (standing_of c k e) f) (has (standing_of d k e) f) (carried c d x y o e f h k) (carried d c y x p e f (rw o.count at h) k)))
          (λ t. let h : c.count ≤ e = ltb-false e c.count t in stands-past c x k e h l ∙ sym (stands-past d y k e (rw o.count at h) l));
    }
  where
    o : OneBook c d
    o = one-book c d q

    p : OneBook d c
    p = one-book d c (sym q)
