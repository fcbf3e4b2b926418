-- The rows of the paper's table for counting, the finished test, deriving and deriving a smaller book, and that each call answers exactly as they say. Assumes nothing.
use Prim.Native.Nat.{ℕ, ◌^◌, ◌≤◌, ◌<◌}
use Rattle.std.specs.Prelude.{◌≡◌, true, false, eqb, leb, ltb, length}
use Rattle.std.proofs.Math.Path.{sym}
use Rattle.std.proofs.Common.{ap, ap₂, subst, ◌∙◌, arith}
use borrow.Author.Tests.{eq-eqb, ne_eqb, eqb-true, eqb-false, le-leb, lt-leb, leb-true, leb-false, ltb-true, ltb-false}
use Rattle.paper.specs.Limits.{max_events, unfit, book_room}
use Rattle.paper.specs.Answers.{answer, granted, refusal}
use Rattle.paper.specs.declared.Answer.{Answer}
use Rattle.general.specs.Cases.{cases, contra, both, not_so}
use Rattle.general.specs.Below.{tally, tally-none, Lowest, lowest-one}
use Rattle.sets.specs.Set.{has, inter, lowest}
use Rattle.sets.specs.Laws.{has-inter, below, lowest-has, lowest-lt, apart-not, not-apart}
use Rattle.flat_chart.specs.Chart.{In, Fit}
use Rattle.graph.specs.Fitness.{FitMarking, fit, fit-both, both-fit}
use Rattle.flat_chart.specs.Tests.{fit_chart}
use Rattle.flat_chart.specs.Fitness.{fit-chart}
use Rattle.graph.specs.Steps.{is_open, counting, finishing}
use Rattle.graph.specs.Execution.{Enabled, open-enabled, Counts, counts, count-refused, finish-refused}
use Rattle.flat_chart.specs.Flat.{FlatChart}
use Rattle.graph.specs.Flat.{Marking}
use Rattle.graph.specs.declared.steps.OpenCount.{OpenCount}
use Rattle.graph.specs.declared.steps.Finished.{Finished}
use Rattle.deriver.specs.Deriving.{derived_image, deriving_answer}
use Rattle.smaller.specs.Staying.{mark_table}
use Rattle.smaller_deriver.specs.Calling.{smaller_image, refusing_smaller, deriving_smaller}
use Rattle.smaller_deriver.specs.declared.Smaller.{Smaller}
use Rattle.promises.specs.Numbers.{Number, number-one, number-tally}

module _ (c : FlatChart) (m : Marking) where
  -- chart or marking is not fit: 14 of the calls that take both
  abbrev pub Unfit : Type 0
  Unfit = Fit c → FitMarking c.count m → ⊥

  pub untested : fit c m ≡ false → Unfit
  untested z f t = contra (both-fit c m f t) z

  -- ---- counting

  abbrev counted : Answer → ℕ → ℕ → OpenCount
  counted a n e = record { answer = a; count = n; lowest = e }

  -- "A call reports the number of open events and the lowest-numbered one"; request (xiv): ""No open event" is reported as 256, by a refused count too."
  pub data CountsOpen : OpenCount → Type 0 where
    is_unfit : Unfit → CountsOpen (record { answer = refusal unfit; count = 0; lowest = max_events })
    is_none : Fit c → FitMarking c.count m → ((e : ℕ) → Enabled c m e → ⊥) → CountsOpen (record { answer = granted; count = 0; lowest = max_events })
    is_some : {n e : ℕ} → Fit c → FitMarking c.count m → Number (Enabled c m) c.count n → Lowest c.count (Enabled c m) e → CountsOpen (record { answer = granted; count = n; lowest = e })

  enabled-below : FitMarking c.count m → (e : ℕ) → Enabled c m e → e < c.count
  enabled-below t e x = t.included e x.included

  open-number : Number (Enabled c m) c.count (tally c.count (is_open c m))
  open-number = number-tally (Enabled c m) (is_open c m) (open-enabled c m) c.count

  open_none : ((e : ℕ) → Enabled c m e → ⊥) → tally c.count (is_open c m) ≡ 0
  open_none n = tally-none c.count (is_open c m) (λ e h. not_so (λ x. n e ((open-enabled c m e).0 x)))

  counts-so : Fit c → FitMarking c.count m → (r : OpenCount) → Counts c m r → CountsOpen r
  counts-so f t r k =
      subst (λ (a : Answer). CountsOpen (counted a r.count r.lowest)) (sym k.granting)
      (cases (ltb r.lowest c.count)
      (λ l. is_some f t (rw k.number open-number) (k.lowest.0 (ltb-true r.lowest c.count l)))
      (λ l. let o = k.lowest.1 (λ h. let g = ltb-false r.lowest c.count l in absurd (omega arith)) in
      let n : (e : ℕ) → Enabled c m e → ⊥ = λ e x. o.1 e (enabled-below t e x) x in
      rw (k.number, open_none n, o.0) (is_none f t n)))

  -- some row holds, and it is the call's answer
  pub counts-open : CountsOpen (counting c m)
  counts-open =
      cases (fit c m)
      (λ ok. let (f, t) = fit-both c m ok in counts-so f t (counting c m) (counts c m f t))
      (λ z. rw (count-refused c m (untested z)) (is_unfit (untested z)))

  row_one : Fit c → FitMarking c.count m → {n e : ℕ} → tally c.count (is_open c m) ≡ n → (Counts c m (counting c m) → (counting c m).lowest ≡ e) → counted granted n e ≡ counting c m
  row_one f t p q =
      let k = counts c m f t in
      let r : OpenCount = counting c m in
      sym (ap (λ (a : Answer). counted a r.count r.lowest) k.granting ∙ ap₂ (counted granted) (k.number ∙ p) (q k))

  pub counts-only : {r : OpenCount} → CountsOpen r → r ≡ counting c m
  counts-only (is_unfit n) = sym (count-refused c m n)
  counts-only (is_none f t n) = row_one f t (open_none n) (λ k. (k.lowest.1 (λ h. n _ (k.lowest.0 h).holds)).0)
  counts-only (is_some {n} {e} f t u l) =
      row_one f t (number-one open-number u)
      (λ k. lowest-one c.count (Enabled c m) (counting c m).lowest e (k.lowest.0 (below-count k)) l)
    where
      below-count : Counts c m (counting c m) → (counting c m).lowest < c.count
      below-count k =
          cases (ltb (counting c m).lowest c.count) (ltb-true (counting c m).lowest c.count)
          (λ x. let g = ltb-false (counting c m).lowest c.count x in
          absurd ((k.lowest.1 (λ h. omega arith)).1 e (enabled-below t e l.holds) l.holds))

  -- ---- the finished test

  -- "A marking is finished if no event is both in In and in Re."; "a refused finished test no"
  pub data Finishes : Finished → Type 0 where
    is_unfit : Unfit → Finishes (record { answer = refusal unfit; yes = false })
    is_finished : Fit c → FitMarking c.count m → ((e : ℕ) → In m.included e → In m.pending e → ⊥) → Finishes (record { answer = granted; yes = true })
    is_waiting : (e : ℕ) → Fit c → FitMarking c.count m → In m.included e → In m.pending e → Finishes (record { answer = granted; yes = false })

  pub finishes : Finishes (finishing c m)
  unfolding finishing
  finishes =
      cases (fit c m)
      (λ ok. let (f, t) = fit-both c m ok in
      cases (eqb (inter m.included m.pending) 0)
      (λ z. rw (ok, z) (is_finished f t (λ e. apart-not m.included m.pending e (eqb-true _ 0 z))))
      (λ z. let h = waits t (eqb-false _ 0 z) in rw (ok, z) (is_waiting _ f t h.0 h.1)))
      (λ z. rw z (is_unfit (untested z)))
    where
      -- the lowest event that is in both
      waits : FitMarking c.count m → (inter m.included m.pending ≡ 0 → ⊥)
          → In m.included (lowest c.count (inter m.included m.pending)) × In m.pending (lowest c.count (inter m.included m.pending))
      waits t n =
          let s : ℕ = inter m.included m.pending in
          let part : (f : ℕ) → In s f → In m.included f × In m.pending f = λ f x. both (has m.included f) (has m.pending f) (sym (has-inter m.included m.pending f) ∙ x) in
          let b : s < 2 ^ c.count = below c.count s (λ f l. not_so (λ x. let u : f < c.count = t.included f (part f x).0 in absurd (omega arith))) in
          part (lowest c.count s) (lowest-has c.count s (lowest-lt c.count s (omega arith) b))

  pub finishes-only : {r : Finished} → Finishes r → r ≡ finishing c m
  unfolding finishing
  finishes-only (is_unfit n) = sym (finish-refused c m n)
  finishes-only (is_finished f t h) = rw (both-fit c m f t, eq-eqb _ 0 (not-apart m.included m.pending h))
  finishes-only (is_waiting e f t i p) = rw (both-fit c m f t, ne_eqb _ 0 (λ z. apart-not m.included m.pending e z i p))

-- ---- deriving

-- 14, then 15 with the bytes needed
pub data Derives (c : FlatChart) (room : ℕ) : Answer → Type 0 where
  is_unfit : (Fit c → ⊥) → Derives c room (refusal unfit)
  is_narrow : Fit c → room < length (derived_image c) → Derives c room (answer book_room (length (derived_image c)) 0)
  is_derived : Fit c → length (derived_image c) ≤ room → Derives c room granted

pub derives : (c : FlatChart) (room : ℕ) → Derives c room (deriving_answer c room)
unfolding deriving_answer
derives c room =
    cases (fit_chart c)
    (λ t. cases (leb (length (derived_image c)) room)
    (λ l. let h = leb-true (length (derived_image c)) room l in rw (t, l) (is_derived ((fit-chart c).0 t) (omega arith)))
    (λ l. let h = leb-false (length (derived_image c)) room l in rw (t, l) (is_narrow ((fit-chart c).0 t) (omega arith))))
    (λ t. rw t (is_unfit (λ f. contra ((fit-chart c).1 f) t)))

-- ---- deriving a smaller book

module _ (c : FlatChart) (m : Marking) where
  -- 14, then 15 with the bytes needed, each with 65,535 throughout in place of the table
  pub data DerivesSmaller (room : ℕ) : Smaller → Type 0 where
    is_unfit : Unfit c m → DerivesSmaller room (refusing_smaller (refusal unfit))
    is_narrow : Fit c → FitMarking c.count m → room < length (smaller_image c m) → DerivesSmaller room (refusing_smaller (answer book_room (length (smaller_image c m)) 0))
    is_derived : Fit c → FitMarking c.count m → length (smaller_image c m) ≤ room → DerivesSmaller room (record { answer = granted; table = mark_table c m })

  pub derives-smaller : (room : ℕ) → DerivesSmaller room (deriving_smaller c m room)
  unfolding deriving_smaller
  derives-smaller room =
      cases (fit c m)
      (λ ok. let (f, t) = fit-both c m ok in
      cases (leb (length (smaller_image c m)) room)
      (λ l. let h = leb-true (length (smaller_image c m)) room l in rw (ok, l) (is_derived f t (omega arith)))
      (λ l. let h = leb-false (length (smaller_image c m)) room l in rw (ok, l) (is_narrow f t (omega arith))))
      (λ z. rw z (is_unfit (untested c m z)))

  pub derives-smaller-only : (room : ℕ) {r : Smaller} → DerivesSmaller room r → r ≡ deriving_smaller c m room
  unfolding deriving_smaller
  derives-smaller-only room (is_unfit n) = rw (not_so (λ ok. let (f, t) = fit-both c m ok in n f t))
  derives-smaller-only room (is_narrow f t l) = rw (both-fit c m f t, lt-leb (length (smaller_image c m)) room (omega arith))
  derives-smaller-only room (is_derived f t l) = rw (both-fit c m f t, le-leb (length (smaller_image c m)) room (omega arith))
