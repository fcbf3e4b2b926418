-- The rows of the request's table for reading a book back, and that exactly one holds. Assumes nothing.
use Rattle.std.specs.Prelude.{◌≡◌, refl, true, List, ℕ, ◌≤◌, eqb, replicate}
use Rattle.std.proofs.Math.Path.{sym, ap}
use Rattle.std.proofs.Common.{subst, ◌∙◌, arith}
use borrow.Author.Tests.{eqb-true, eqb-false, eq-eqb, ne_eqb}
use Rattle.paper.specs.Limits.{max_events, clash, not_derived}
use Rattle.paper.specs.Answers.{granted, refusal}
use Rattle.paper.specs.declared.Answer.{Answer}
use Rattle.general.specs.Cases.{contra, cases, both, coincide, not_so}
use Rattle.general.specs.Comparing.{same_bytes, same-so, so-same}
use Rattle.flat_chart.specs.Chart.{Fit, empty_chart}
use Rattle.flat_chart.specs.Tests.{fit_chart}
use Rattle.flat_chart.specs.Fitness.{tested-fit, fit-tested}
use Rattle.flat_chart.specs.Flat.{FlatChart}
use Rattle.book.specs.Image.{rules_in, book_of}
use Rattle.book.specs.ImageOf.{image_of, book-of-image}
use Rattle.judge.specs.Checking.{book_answer, BookPasses, Checked, passes-granted, book-is}
use Rattle.judge.proofs.Checking.{book-passes, is-book}
use Rattle.derived.specs.Derived.{derived_book}
use Rattle.deriver.specs.Deriving.{derived_image}
use Rattle.gathering.specs.Gathering.{gathered}
use Rattle.gathering.specs.Behind.{bare, bare-roles}
use Rattle.gathering.proofs.Behind.{fit-bare, derived-bare, gathered-derived}
use Rattle.read_back.specs.ReadingBack.{chart_behind, from_chart, read_back_answer, reading_back}
use Rattle.read_back.specs.Flat.{ReadBack}

abbrev pub read_back : Answer → FlatChart → ReadBack
read_back a c = record { answer = a; chart = c }

-- ---- the bytes that the deriver writes for a fit chart

pub record Writes (c : FlatChart) (s : List ℕ) : Type 0 where
  pub fit : Fit c
  pub bytes : derived_image c ≡ s

module _ (s : List ℕ) where
  module _ (c : FlatChart) (w : Writes c s) where
    pub chart-behind : chart_behind s ≡ bare c
    chart-behind = ap (λ (x : List ℕ). gathered (book_of x)) (sym w.bytes) ∙ ap gathered (book-of-image (derived_book c)) ∙ gathered-derived c w.fit

    writes-from : from_chart s ≡ true
    unfolding from_chart
    writes-from =
        let e : derived_image (bare c) ≡ s = ap image_of (derived-bare c w.fit) ∙ w.bytes in
        rw (chart-behind, fit-tested (bare c) (fit-bare c w.fit), e) (so-same s)

  from-writes : from_chart s ≡ true → Writes (chart_behind s) s
  unfolding from_chart
  from-writes e =
      let t = both (fit_chart (chart_behind s)) (same_bytes s (derived_image (chart_behind s))) e in
      record { fit = tested-fit (chart_behind s) t.0; bytes = sym (same-so s (derived_image (chart_behind s)) t.1) }

-- ---- the rows

pub data ReadsBack (s : List ℕ) : ReadBack → Type 0 where
  -- 20 to 26, of the book alone
  refused : (a : Answer) → Checked s 0 (rules_in s) a → (a.code ≡ 0 → ⊥) → a.code ≤ clash → ReadsBack s (read_back a empty_chart)
  -- "33, not a derived book, after 20 to 26"
  foreign : BookPasses s → ((c : FlatChart) → Writes c s → ⊥) → ReadsBack s (read_back (refusal not_derived) empty_chart)
  -- "accept exactly the books that the deriver writes for some fit flat chart, and give that chart without marking or roles"
  back : BookPasses s → (c : FlatChart) → Writes c s → ReadsBack s (read_back granted (bare c))

module _ (s : List ℕ) where
  passing : BookPasses s → (book_answer s).code ≡ 0
  passing p = ap (λ (a : Answer). a.code) (passes-granted s p)

  -- at most one row holds
  pub reads-back-is : (r : ReadBack) → ReadsBack s r → r ≡ reading_back s
  unfolding reading_back read_back_answer
  reads-back-is r (refused a c n l) = let z : book_answer s ≡ a = book-is s 0 (rules_in s) a c n l in rw (z, ne_eqb a.code 0 n, ne_eqb a.code 0 n)
  reads-back-is r (foreign p n) =
      rw (eq-eqb (book_answer s).code 0 (passing p), not_so (λ e. n (chart_behind s) (from-writes s e)))
  reads-back-is r (back p c w) = rw (eq-eqb (book_answer s).code 0 (passing p), writes-from s c w, chart-behind s c w)

  -- some row holds
  row : (r : ReadBack) × ReadsBack s r
  row =
      cases (eqb (book_answer s).code 0)
      (λ e. let p = book-passes s (eqb-true (book_answer s).code 0 e) in
      cases (from_chart s) (λ t. (read_back granted (bare (chart_behind s)), back p (chart_behind s) (from-writes s t)))
      (λ t. (read_back (refusal not_derived) empty_chart, foreign p (λ c w. contra (writes-from s c w) t))))
      (λ e. let n = eqb-false (book_answer s).code 0 e in let (c, l) = is-book s 0 (rules_in s) n in (read_back (book_answer s) empty_chart, refused (book_answer s) c n l))

  -- the result's row holds: with `reads-back-is`, every answer and chart is given exactly as the table says
  pub reads-back : ReadsBack s (reading_back s)
  reads-back = let t = row in subst (λ (r : ReadBack). ReadsBack s r) (reads-back-is t.0 t.1) t.1

  -- ---- what each answer says

  pub back-granted : BookPasses s → (c : FlatChart) → Writes c s → reading_back s ≡ read_back granted (bare c)
  back-granted p c w = sym (reads-back-is _ (back p c w))

  pub granted-back : (reading_back s).answer.code ≡ 0 → BookPasses s × Writes (reading_back s).chart s
  granted-back = go (reading_back s) reads-back
    where
      go : (r : ReadBack) → ReadsBack s r → r.answer.code ≡ 0 → BookPasses s × Writes r.chart s
      go r (refused a c n l) e = absurd (n e)
      go r (foreign p n) e = absurd (omega arith)
      go r (back p c w) e = (p, record { fit = fit-bare c w.fit; bytes = ap image_of (derived-bare c w.fit) ∙ w.bytes })

  pub granted-roles : (reading_back s).answer.code ≡ 0 → (reading_back s).chart.roles ≡ replicate max_events 0
  granted-roles = go (reading_back s) reads-back
    where
      go : (r : ReadBack) → ReadsBack s r → r.answer.code ≡ 0 → r.chart.roles ≡ replicate max_events 0
      go r (refused a c n l) e = absurd (n e)
      go r (foreign p n) e = absurd (omega arith)
      go r (back p c w) e = bare-roles c

  -- 33 exactly if 20 to 26 pass and no fit chart has these bytes
  pub foreign-told : (reading_back s).answer.code ≡ not_derived → BookPasses s × ((c : FlatChart) → Writes c s → ⊥)
  foreign-told = go (reading_back s) reads-back
    where
      go : (r : ReadBack) → ReadsBack s r → r.answer.code ≡ not_derived → BookPasses s × ((c : FlatChart) → Writes c s → ⊥)
      go r (refused a c n l) e = absurd (omega arith)
      go r (foreign p n) e = (p, n)
      go r (back p c w) e = absurd (omega arith)

  pub told-foreign : BookPasses s → ((c : FlatChart) → Writes c s → ⊥) → (reading_back s).answer ≡ refusal not_derived
  told-foreign p n = sym (ap (λ (r : ReadBack). r.answer) (reads-back-is _ (foreign p n)))

  -- a refusal gives the empty chart
  pub refused-back : ((reading_back s).answer.code ≡ 0 → ⊥) → reading_back s ≡ read_back (reading_back s).answer empty_chart
  refused-back = go (reading_back s) reads-back
    where
      go : (r : ReadBack) → ReadsBack s r → (r.answer.code ≡ 0 → ⊥) → r ≡ read_back r.answer empty_chart
      go r (refused a c n l) z = refl
      go r (foreign p n) z = refl
      go r (back p c w) z = absurd (z refl)

  -- two results that meet the contract coincide
  pub read-back-determined : (a b : ReadBack) → a ≡ reading_back s → b ≡ reading_back s → a ≡ b
  read-back-determined a b = coincide
