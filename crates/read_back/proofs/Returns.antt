-- A law for each return of the functions that read a book back. Assumes nothing.
use mathlib.Core.Path.{◌≡◌, refl, sym, ap, ◌∙◌}
use mathlib.Core.Bool.{Bool, true, false, not}
use mathlib.Core.List.{List}
use Prim.Native.Nat.{ℕ, ◌≤◌}
use native.Mathlib.Omega.{arith}
use lib.ListN.{length, replicate}
use borrow.Author.Tests.{eq-eqb, ne_eqb, not-true, not-false}
use Rattle.paper.specs.Limits.{max_events, not_derived}
use Rattle.paper.specs.Answers.{refusal}
use Rattle.paper.specs.declared.Answer.{Answer}
use Rattle.general.specs.Cases.{both, not_so}
use Rattle.general.specs.Comparing.{same_bytes, same-so}
use Rattle.general.specs.Tables.{length-tabulate}
use Rattle.flat_chart.specs.Chart.{Fit, chart_of}
use Rattle.flat_chart.specs.Tests.{fit_chart}
use Rattle.flat_chart.specs.Fitness.{tested-fit}
use Rattle.flat_chart.specs.Flat.{FlatChart}
use Rattle.book.specs.Book.{Book}
use Rattle.book.specs.Image.{stages_in, rules_in, conditions_in, condition_place, condition_from, book_of}
use Rattle.book.specs.ImageOf.{book-of-image}
use Rattle.book.specs.Judging.{counts_of}
use Rattle.book.specs.WellRead.{Opened}
use Rattle.book.specs.declared.Counts.{Counts}
use Rattle.derived.specs.Derived.{derived_book}
use Rattle.derived.specs.Sizes.{conditions-length}
use Rattle.deriver.specs.Deriving.{derived_image, found-fit}
use Rattle.judge.specs.Checking.{book_answer, BookPasses, passes-granted}
use Rattle.judge.proofs.Checking.{book-passes}
use Rattle.derived_same.specs.Same.{roleless}
use Rattle.gathering.specs.Gathering.{gathered}
use Rattle.read_back.specs.ReadingBack.{chart_behind, from_chart, read_back_answer, reading_back}
use Rattle.read_back.specs.Written.{written_for, refused_back}
use Rattle.read_back.specs.Flat.{ReadBack}

-- ---- whether the deriver writes the book for the chart

module _ (n : ℕ) (t r m i x roles s : List ℕ) (b : Bool) (p : b ≡ fit_chart (chart_of n t r m i x roles)) (z : roles ≡ replicate max_events 0) where
  fits : b ≡ fit_chart (roleless n t r m i x)
  fits = rw z at p

  pub written-unfit : not b ≡ true → false ≡ written_for (roleless n t r m i x) s
  unfolding written_for
  written-unfit h = rw (← fits, not-true b h)

  module _ (h : not b ≡ false) where
    pub written-fit : Fit (roleless n t r m i x)
    written-fit = found-fit (roleless n t r m i x) b fits h

    pub written_same : (d : Bool) → d ≡ same_bytes s (derived_image (roleless n t r m i x)) → d ≡ written_for (roleless n t r m i x) s
    unfolding written_for
    written_same d q = rw (← fits, not-false b h) q

-- ---- a derived book has a condition for each stage

module _ (s : List ℕ) where
  conditions-count : length (book_of s).conditions ≡ conditions_in s
  unfolding book_of
  conditions-count = length-tabulate (conditions_in s) (λ c. condition_from s (condition_place (rules_in s) c))

  behind-count : (chart_behind s).count ≡ stages_in s
  unfolding gathered book_of
  behind-count = refl

  pub from-conditions : from_chart s ≡ true → conditions_in s ≡ stages_in s
  unfolding from_chart
  from-conditions e =
      let t = both (fit_chart (chart_behind s)) (same_bytes s (derived_image (chart_behind s))) e in
      let b : book_of s ≡ derived_book (chart_behind s) = ap book_of (same-so s (derived_image (chart_behind s)) t.1) ∙ book-of-image (derived_book (chart_behind s)) in
      sym conditions-count
      ∙ ap (λ (x : Book). length x.conditions) b
      ∙ conditions-length (chart_behind s) (tested-fit (chart_behind s) t.0)
      ∙ behind-count

  -- ---- each return, by its answer

  refused-with : (a : Answer) → read_back_answer s ≡ a → (a.code ≡ 0 → ⊥) → refused_back a ≡ reading_back s
  unfolding reading_back
  refused-with a e n = rw (e, ne_eqb a.code 0 n)

  module _ (a : Answer) (e : a ≡ book_answer s) where
    pub back-judged : (a.code ≡ 0 → ⊥) → (r : ReadBack) → r ≡ refused_back a → r ≡ reading_back s
    unfolding read_back_answer
    back-judged n r q = q ∙ refused-with a (rw (← e, ne_eqb a.code 0 n)) n

    module _ (z : a.code ≡ 0) where
      passes : BookPasses s
      passes = book-passes s (sym (ap (λ (x : Answer). x.code) e) ∙ z)

      pub back-headed : 32 ≤ length s
      back-headed = passes.formed.headed.long

      foreign : from_chart s ≡ false → (b : Answer) → b ≡ refusal not_derived → (r : ReadBack) → r ≡ refused_back b → r ≡ reading_back s
      unfolding read_back_answer
      foreign f b g r q = q ∙ rw g (refused-with (refusal not_derived) (rw (← e, eq-eqb a.code 0 z, f)) (λ k. omega arith))

      module _ (h : Counts) (c : h ≡ counts_of s) where
        pub back-uneven : (h.conditions ≡ h.stages → ⊥) → (b : Answer) → b ≡ refusal not_derived → (r : ReadBack) → r ≡ refused_back b → r ≡ reading_back s
        back-uneven n = foreign (not_so (λ f. n (rw c (from-conditions f))))

        pub back-opened : h.conditions ≡ h.stages → Opened s h × (stages_in s ≤ conditions_in s)
        back-opened q = (record { formed = passes.formed; counts = c }, let k : conditions_in s ≡ stages_in s = rw c at q in omega arith)

      module _ (d : FlatChart) (g : d ≡ gathered (book_of s)) where
        pub back-roles : d.roles ≡ replicate max_events 0
        unfolding gathered
        back-roles = ap (λ (x : FlatChart). x.roles) g

        module _ (w : Bool) (v : w ≡ written_for (roleless d.count d.conditions d.responses d.milestones d.includes d.excludes) s) where
          from : w ≡ from_chart s
          unfolding from_chart written_for gathered
          from = v ∙ rw g

          pub back-foreign : not w ≡ true → (b : Answer) → b ≡ refusal not_derived → (r : ReadBack) → r ≡ refused_back b → r ≡ reading_back s
          back-foreign t = foreign (sym from ∙ not-true w t)

          by-chart : not w ≡ false → read_back_answer s ≡ a
          unfolding read_back_answer
          by-chart t = rw (← e, eq-eqb a.code 0 z, sym from ∙ not-false w t) (sym (e ∙ passes-granted s passes))

          pub back-granted : not w ≡ false → record { answer = a; chart = d } ≡ reading_back s
          unfolding reading_back
          back-granted t = rw (by-chart t, eq-eqb a.code 0 z, g)
