-- Request (xi): a full book's snapshot through the table, and that what a dropped mark would be never matters. Assumes nothing.
use Rattle.std.specs.Prelude.{ℕ, ◌≤◌, ◌<◌, ◌≡◌, true, false, cond, ltb}
use Rattle.std.proofs.Common.{inl, ⊎_elim, le-ltb}
use Rattle.general.specs.Cases.{contra, not_so}
use Rattle.sets.specs.Set.{has}
use Rattle.flat_chart.specs.Chart.{In}
use Rattle.graph.specs.Steps.{after}
use Rattle.graph.specs.Execution.{after-executed}
use Rattle.flat_chart.specs.Flat.{FlatChart}
use Rattle.graph.specs.Flat.{Marking}
use Rattle.book.specs.Text.{Snap}
use Rattle.smaller.specs.Staying.{included_stays, answered_stays, included-goes, answered-goes, stays, new_mark, smaller_marks}
use Rattle.smaller.specs.Numbering.{old_mark}

-- m is the start marking
module _ (c : FlatChart) (m : Marking) where
  -- ---- "The smaller book's start snapshot is the full one's matching snapshot through the table"

  unfoldable pub through : Snap → Snap
  through s j = cond (ltb j (smaller_marks c m)) (s (old_mark c m j)) false

  pub through-past : (s : Snap) (j : ℕ) → smaller_marks c m ≤ j → through s j ≡ false
  unfolding through
  through-past s j h = rw (le-ltb j (smaller_marks c m) h)

  -- mark by mark: each that stays has its value under its new number, and no other mark is yes
  pub record Through (s t : Snap) : Type 0 where
    pub kept : (k : ℕ) → stays c m k ≡ true → t (new_mark c m k) ≡ s k
    pub past : (j : ℕ) → smaller_marks c m ≤ j → t j ≡ false

  -- ---- a dropped included or answered mark would be yes all along

  pub record Quiet (now : Marking) : Type 0 where
    pub included : (e : ℕ) → e < c.count → included_stays c m e ≡ false → In now.included e
    pub answered : (e : ℕ) → e < c.count → answered_stays c m e ≡ false → has now.pending e ≡ false

  pub quiet-start : Quiet m
  quiet-start = record { included = λ e h z. ((included-goes c m e).0 z).starts; answered = λ e h z. not_so ((answered-goes c m e).0 z).starts }

  pub quiet-after : {now : Marking} → Quiet now → (e : ℕ) → e < c.count → Quiet (after c now e)
  quiet-after {now} q e he =
      let x = after-executed c now e in
      record {
        included = λ f h z. (x.included f).1 (inl (q.included f h z, ((included-goes c m f).0 z).unexcluded e he));
        answered = λ f h z. not_so (λ t. ⊎_elim (λ p. contra p.0 (q.answered f h z)) (((answered-goes c m f).0 z).unasked e he) ((x.pending f).0 t));
      }
