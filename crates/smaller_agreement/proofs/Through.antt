-- Request (xi): a full book's snapshot through the table, and that what a dropped mark would be never matters. Assumes nothing.
use Rattle.std.specs.Prelude.{ℕ, ◌≤◌, ◌<◌, ◌≡◌, true, ltb}
use Rattle.std.proofs.Common.{sym, ap, ◌∙◌, lt-ltb, ltb-true, ltb-false}
use Rattle.general.specs.Cases.{cases}
use Rattle.flat_chart.specs.Flat.{FlatChart}
use Rattle.graph.specs.Flat.{Marking}
use Rattle.book.specs.Text.{Snap}
use Rattle.smaller.specs.Staying.{stays, new_mark, smaller_marks}
use Rattle.smaller.specs.Numbering.{stays-stage, new-stage, new-below, old_mark, old-new, new-old}
use Rattle.smaller_agreement.specs.Through.{through, through-past, Through}

-- m is the start marking
module _ (c : FlatChart) (m : Marking) where
  pub through-at : (s : Snap) (j : ℕ) → j < smaller_marks c m → through c m s j ≡ s (old_mark c m j)
  unfolding through
  through-at s j h = rw (lt-ltb j (smaller_marks c m) h)

  pub through-new : (s : Snap) (k : ℕ) → stays c m k ≡ true → through c m s (new_mark c m k) ≡ s k
  through-new s k t = through-at s (new_mark c m k) (new-below c m k t) ∙ ap s (old-new c m k t)

  pub through-stage : (s : Snap) (e : ℕ) → e < c.count → through c m s e ≡ s e
  through-stage s e h = ap (through c m s) (sym (new-stage c m e h)) ∙ through-new s e (stays-stage c m e h)

  pub through-is : (s : Snap) → Through c m s (through c m s)
  through-is s = record { kept = through-new s; past = through-past c m s }

  pub through-one : {s t : Snap} → Through c m s t → (j : ℕ) → t j ≡ through c m s j
  through-one {s} {t} w j =
      cases (ltb j (smaller_marks c m))
      (λ l. let h : j < smaller_marks c m = ltb-true j (smaller_marks c m) l in
      let (k, q) = new-old c m j h in
      ap t (sym q) ∙ w.kept (old_mark c m j) k ∙ sym (through-at s j h))
      (λ l. let h : smaller_marks c m ≤ j = ltb-false j (smaller_marks c m) l in w.past j h ∙ sym (through-past c m s j h))
