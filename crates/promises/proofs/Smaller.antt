-- Request (xi): "From the start marking, over every sequence of completions, stages and kept marks are those of the full book, and the finished test is the same with dropped
-- marks read as yes." Stated of what the calls give: derive and its smaller book, matching, complete, and the chart's finished test. Assumes nothing.
use Rattle.std.specs.Prelude.{ℕ, ◌≤◌, ◌<◌, ◌≡◌, refl, true, ◌||◌, List, [], ◌∷◌}
use Rattle.std.proofs.Math.Path.{sym}
use Rattle.std.proofs.Common.{subst, ◌∙◌, arith}
use Rattle.std.proofs.Math.Bool.{false, not}
use borrow.Author.Tests.{ne_eqb}
use Rattle.paper.specs.Limits.{max_events, max_marks, no_mark}
use Rattle.general.specs.Cases.{contra, cases, same_test, not_so}
use Rattle.general.specs.Below.{every, every-at, every_of, every-same}
use Rattle.general.specs.Lists.{All}
use Rattle.sets.specs.Set.{has}
use Rattle.flat_chart.specs.Chart.{Fit}
use Rattle.graph.specs.Fitness.{FitMarking}
use Rattle.graph.specs.Steps.{finishing}
use Rattle.graph.specs.Execution.{finished-when}
use Rattle.flat_chart.specs.Flat.{FlatChart}
use Rattle.graph.specs.Flat.{Marking}
use Rattle.book.specs.Text.{snap_of}
use Rattle.book.specs.declared.Snapshot.{Snapshot}
use Rattle.derived.specs.Derived.{included_mark, answered_mark}
use Rattle.deriver.specs.Deriving.{derived_image}
use Rattle.deriver.specs.Matching.{matching_of, mark_of}
use Rattle.smaller.specs.Staying.{stays, new_mark}
use Rattle.smaller.specs.Numbering.{stays-included, stays-answered, new-below, marks-fewer, table_at, table_stays}
use Rattle.smaller_deriver.specs.Calling.{smaller_image}
use Rattle.runner.specs.Completing.{completing}
use Rattle.agreement.specs.Matching.{match-included, match-answered}
use Rattle.smaller_agreement.specs.Through.{Quiet, quiet-start}
use Rattle.smaller_agreement.proofs.Through.{through-stage}
use Rattle.promises.specs.Smaller.{smaller_snapshot, reaching, read_as, finished_as, Same, Ordered, Alongside, few, small_at, small-new, full_at, answers-same, fit_next, quiet_next, full-next, small-next}

-- ---- the snapshot through the table

module _ (c : FlatChart) (fit : Fit c) (m : Marking) where
  abbrev n : ℕ
  n = c.count

  module _ (now : Marking) (marked : FitMarking c.count now) where
    module _ (quiet : Quiet c m now) where
      -- a mark that stays is read at its new number, which is none of 65,535, and a dropped one as yes
      read_kept : (t : Snapshot) (k : ℕ) → stays c m k ≡ true → read_as c m t k ≡ snap_of t.marks (new_mark c m k)
      unfolding read_as
      read_kept t k s =
          let b : n ≤ max_events = few c fit m in
          rw (table_stays c m (few c fit m) k no_mark s, ne_eqb (new_mark c m k) no_mark (λ q. absurd (omega (arith, new-below c m k s, marks-fewer c m))))

      read-gone : (t : Snapshot) (k : ℕ) → k < max_marks → stays c m k ≡ false → read_as c m t k ≡ true
      unfolding read_as
      read-gone t k h s = rw (table_at c m k no_mark h, s)

      read-included : (e : ℕ) → e < n → read_as c m (smaller_snapshot c m now) (included_mark n e) ≡ has now.included e
      read-included e h =
          let b : n ≤ max_events = few c fit m in
          cases (stays c m (included_mark n e))
          (λ t. read_kept (smaller_snapshot c m now) (included_mark n e) t ∙ small-new c fit m now (included_mark n e) t ∙ match-included c now e h)
          (λ t. read-gone (smaller_snapshot c m now) (included_mark n e) (omega arith) t ∙ sym (quiet.included e h (sym (stays-included c m e h) ∙ t)))

      read-answered : (e : ℕ) → e < n → read_as c m (smaller_snapshot c m now) (answered_mark n e) ≡ not (has now.pending e)
      read-answered e h =
          let b : n ≤ max_events = few c fit m in
          cases (stays c m (answered_mark n e))
          (λ t. read_kept (smaller_snapshot c m now) (answered_mark n e) t ∙ small-new c fit m now (answered_mark n e) t ∙ match-answered c now e h)
          (λ t. read-gone (smaller_snapshot c m now) (answered_mark n e) (omega arith) t ∙ rw (quiet.answered e h (sym (stays-answered c m e h) ∙ t)))

      finished-same : finished_as c m (smaller_snapshot c m now) ≡ (finishing c now).yes
      unfolding finished_as
      finished-same =
          every-same n _ (λ e. not (has now.included e) || not (has now.pending e)) (λ e h. rw (read-included e h, read-answered e h))
          ∙ same_test (every n (λ e. not (has now.included e) || not (has now.pending e))) (finishing c now).yes
          (λ t. (finished-when c now fit marked).1 (λ e i p. contra (every-at n (λ e. not (has now.included e) || not (has now.pending e)) e t (marked.included e i)) (rw (i, p))))
          (λ t. every_of n _ (λ e h. cases (has now.included e) (λ i. rw (i, not_so ((finished-when c now fit marked).0 t e i))) (λ i. rw i)))

      same-marks : Same c m now (matching_of c now).snapshot (smaller_snapshot c m now)
      same-marks =
          record {
            marked = marked;
            matches = refl;
            stages = λ e h. small_at c fit m now e ∙ through-stage c m (mark_of c now) e h ∙ sym (full_at c fit m now marked e);
            kept = λ k t. rw (table_stays c m (few c fit m) k no_mark t) (small-new c fit m now k t ∙ sym (full_at c fit m now marked k));
            finished = finished-same;
          }

-- ---- every sequence

module _ (c : FlatChart) (fit : Fit c) (m : Marking) where
  from-here : (now : Marking) → FitMarking c.count now → Quiet c m now → (steps : List (ℕ × (List ℕ × List ℕ))) → All (Ordered c m) steps
      → Alongside c m now (matching_of c now).snapshot (smaller_snapshot c m now) steps
  from-here now marked quiet [] o = same-marks c fit m now marked quiet
  from-here now marked quiet (x ∷ steps) o =
      let e : ℕ = x.0 in
      let K : List ℕ = x.1.0 in
      let L : List ℕ = x.1.1 in
      let u : Marking = reaching c (completing (derived_image c) K (matching_of c now).snapshot e).answer now e in
      let t : Snapshot = (completing (smaller_image c m) L (smaller_snapshot c m now) e).snapshot in
      let rest : Alongside c m u (matching_of c u).snapshot (smaller_snapshot c m u) steps =
      from-here u (fit_next c fit m now marked quiet e K L o.0) (quiet_next c fit m now marked quiet e K L o.0) steps o.1 in (
        same-marks c fit m now marked quiet,
        answers-same c fit m now marked quiet e K L o.0,
        subst (λ (y : Snapshot). Alongside c m u y t steps) (sym (full-next c fit m now marked quiet e K L o.0))
            (subst (λ (y : Snapshot). Alongside c m u (matching_of c u).snapshot y steps) (sym (small-next c fit m now marked quiet e K L o.0)) rest),
      )

  -- "From the start marking, over every sequence of completions"
  pub alongside : FitMarking c.count m → (steps : List (ℕ × (List ℕ × List ℕ))) → All (Ordered c m) steps
      → Alongside c m m (matching_of c m).snapshot (smaller_snapshot c m m) steps
  alongside started steps o = from-here m started (quiet-start c m) steps o
