-- The events whose executed, included and answered marks stay, as sets. Assumes nothing.
use Rattle.std.specs.Prelude.{ℕ, zero, suc, ◌+◌, ◌≡◌, List, get_or}
use Rattle.std.proofs.Common.{◌∙◌, add-one}
use Rattle.general.specs.Below.{some}
use Rattle.sets.specs.Set.{has, union, minus, all_below}
use Rattle.sets.specs.Laws.{has-union, has-empty}
use Rattle.flat_chart.specs.Flat.{FlatChart}
use Rattle.graph.specs.Flat.{Marking}
use Rattle.smaller.specs.Staying.{named, answered_stays}

-- whatever is in one of the first k sets of a table
unfoldable pub union_upto : ℕ → List ℕ → ℕ
union_upto zero t = 0
union_upto (suc k) t = union (union_upto k t) (get_or t k 0)

pub union-step : (k : ℕ) (t : List ℕ) → union_upto (k + 1) t ≡ union (union_upto k t) (get_or t k 0)
unfolding union_upto
union-step k t = rw add-one

pub has-upto : (k : ℕ) (t : List ℕ) (e : ℕ) → has (union_upto k t) e ≡ some k (λ f. has (get_or t f 0) e)
unfolding union_upto some
has-upto zero t e = has-empty e
has-upto (suc k) t e = has-union (union_upto k t) (get_or t k 0) e ∙ rw (has-upto k t e)

-- by the tables, as the code is lent them
unfoldable pub included_by : ℕ → List ℕ → List ℕ → ℕ → ℕ
included_by n i x start = union (union (union_upto n i) (union_upto n x)) (minus (all_below n) start)

unfoldable pub answered_by : ℕ → List ℕ → ℕ → ℕ
answered_by n r start = union (union_upto n r) start

module _ (c : FlatChart) (m : Marking) where
  abbrev pub executed_kept : ℕ
  executed_kept = union_upto c.count c.conditions

  abbrev pub included_kept : ℕ
  included_kept = included_by c.count c.includes c.excludes m.included

  abbrev pub answered_kept : ℕ
  answered_kept = answered_by c.count c.responses m.pending

  pub has-answered : (e : ℕ) → has answered_kept e ≡ answered_stays c m e
  unfolding answered_by answered_stays named
  has-answered e = has-union (union_upto c.count c.responses) m.pending e ∙ rw (has-upto c.count c.responses e)
