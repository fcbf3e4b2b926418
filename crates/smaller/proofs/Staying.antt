-- The events whose executed, included and answered marks stay, as sets. Assumes nothing.
use Rattle.std.specs.Prelude.{ℕ, ◌<◌, ◌≡◌}
use Rattle.std.proofs.Common.{◌∙◌}
use borrow.Author.Tests.{lt-ltb}
use Rattle.sets.specs.Set.{has, union, minus, all_below}
use Rattle.sets.specs.Laws.{has-union, has-minus, has_all}
use Rattle.flat_chart.specs.Flat.{FlatChart}
use Rattle.graph.specs.Flat.{Marking}
use Rattle.smaller.specs.Staying.{named, executed_stays, included_stays}
use Rattle.smaller.specs.Kept.{union_upto, has-upto, included_by, executed_kept, included_kept}

module _ (c : FlatChart) (m : Marking) where
  pub has-executed : (e : ℕ) → has (executed_kept c m) e ≡ executed_stays c m e
  unfolding executed_stays named
  has-executed e = has-upto c.count c.conditions e

  pub has-included : (e : ℕ) → e < c.count → has (included_kept c m) e ≡ included_stays c m e
  unfolding included_by included_stays named
  has-included e h =
      has-union (union (union_upto c.count c.includes) (union_upto c.count c.excludes)) (minus (all_below c.count) m.included) e
      ∙ rw (
        has-union (union_upto c.count c.includes) (union_upto c.count c.excludes) e,
        has-upto c.count c.includes e,
        has-upto c.count c.excludes e,
        has-minus (all_below c.count) m.included e,
        has_all c.count e,
        lt-ltb e c.count h,
      )
