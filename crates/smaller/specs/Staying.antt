-- Request (xi): which marks of a derived book go, by the chart and its start marking, and the numbers of those that stay. Assumes nothing.
use Rattle.std.specs.Prelude.{ℕ, ◌-◌, ◌*◌, ◌<◌, ◌≡◌, ◌↔◌, Bool, true, false, not, cond, ◌||◌, List, ltb}
use Rattle.std.proofs.Math.Path.{refl}
use Rattle.paper.specs.Limits.{max_marks, no_mark}
use Rattle.general.specs.Cases.{contra, cases, neither, not_so}
use Rattle.general.specs.Below.{some, some_of, some_at, tally}
use Rattle.general.specs.Lists.{each}
use Rattle.sets.specs.Set.{has}
use Rattle.flat_chart.specs.Chart.{Kind, condition, response, include, exclude, set_of, In}
use Rattle.flat_chart.specs.Flat.{FlatChart}
use Rattle.graph.specs.Flat.{Marking}

module _ (c : FlatChart) (m : Marking) where
  -- e is in the set of this kind of some event
  unfoldable pub named : Kind → ℕ → Bool
  named k e = some c.count (λ f. has (set_of c k f) e)

  -- ---- which marks go, in the request's words

  -- "Executed e goes if e is a condition of nothing."
  abbrev pub ExecutedGoes : ℕ → Type 0
  ExecutedGoes e = (f : ℕ) → f < c.count → In (set_of c condition f) e → ⊥

  -- "Included e goes if nothing includes or excludes e and e starts included."
  pub record IncludedGoes (e : ℕ) : Type 0 where
    pub unincluded : (f : ℕ) → f < c.count → In (set_of c include f) e → ⊥
    pub unexcluded : (f : ℕ) → f < c.count → In (set_of c exclude f) e → ⊥
    pub starts : In m.included e

  -- "Answered e goes if e is nobody's response and doesn't start pending."
  pub record AnsweredGoes (e : ℕ) : Type 0 where
    pub unasked : (f : ℕ) → f < c.count → In (set_of c response f) e → ⊥
    pub starts : In m.pending e → ⊥

  -- ---- the same as tests

  unfoldable pub executed_stays : ℕ → Bool
  executed_stays e = named condition e

  unfoldable pub included_stays : ℕ → Bool
  included_stays e = named include e || named exclude e || not (has m.included e)

  unfoldable pub answered_stays : ℕ → Bool
  answered_stays e = named response e || has m.pending e

  not_named : (k : Kind) (e : ℕ) → (named k e ≡ false) ↔ ((f : ℕ) → f < c.count → In (set_of c k f) e → ⊥)
  unfolding named
  not_named k e = (
    λ n f h i. contra (some_of c.count (λ g. has (set_of c k g) e) f h i) n,
    λ n. not_so (λ t. let (f, h, i) = some_at c.count (λ g. has (set_of c k g) e) t in n f h i),
  )

  pub executed-goes : (e : ℕ) → (executed_stays e ≡ false) ↔ ExecutedGoes e
  unfolding executed_stays
  executed-goes e = not_named condition e

  pub included-goes : (e : ℕ) → (included_stays e ≡ false) ↔ IncludedGoes e
  unfolding included_stays
  included-goes e = (
    λ n. let (x, s) = neither (named include e || named exclude e) (not (has m.included e)) n in
        let (i, o) = neither (named include e) (named exclude e) x in
        record { unincluded = (not_named include e).0 i; unexcluded = (not_named exclude e).0 o; starts = cases (has m.included e) (λ t. t) (λ t. contra refl (rw t at s)) },
    λ g. rw ((not_named include e).1 g.unincluded, (not_named exclude e).1 g.unexcluded, g.starts),
  )

  pub answered-goes : (e : ℕ) → (answered_stays e ≡ false) ↔ AnsweredGoes e
  unfolding answered_stays
  answered-goes e = (
    λ n. let (r, s) = neither (named response e) (has m.pending e) n in record { unasked = (not_named response e).0 r; starts = λ t. contra t s },
    λ g. rw ((not_named response e).1 g.unasked, not_so g.starts),
  )

  -- ---- "Remaining marks and records close up in their old order."

  -- whether the mark with the old number k stays; stages do
  unfoldable pub stays : ℕ → Bool
  stays k =
      cond (ltb k c.count) true
      (cond (ltb k (2 * c.count)) (executed_stays (k - c.count))
      (cond (ltb k (3 * c.count)) (included_stays (k - 2 * c.count))
      (cond (ltb k (4 * c.count)) (answered_stays (k - 3 * c.count)) false)))

  -- the new number of a mark that stays: how many stay below it
  unfoldable pub new_mark : ℕ → ℕ
  new_mark k = tally k stays

  unfoldable pub smaller_marks : ℕ
  smaller_marks = tally (4 * c.count) stays

  -- "a handed-back table of .. new mark numbers, 65,535 for a dropped or absent mark"; "The mark table of (xi) gets 1,024 places." (request xiv)
  unfoldable pub mark_table : List ℕ
  mark_table = each max_marks (λ k. cond (stays k) (new_mark k) no_mark)
