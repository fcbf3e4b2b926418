-- The settled examples P1 to P12 as rows under one theorem. Assumes nothing.
use Prim.Native.Nat.{ℕ, zero, suc, ◌≤◌, ◌<◌}
use Rattle.std.specs.Prelude.{◌≡◌, refl, false, List, [], ◌∷◌, length, replicate}
use Rattle.std.proofs.Common.{sym, ap₂, subst, ◌∙◌, inl, arith}
use Rattle.std.proofs.Math.Path.{ap}
use Rattle.std.specs.Int.Count.{count_trailing_zeros}
use Rattle.paper.specs.Limits.{max_events, max_marks, stage_closed}
use Rattle.paper.specs.Answers.{granted, refusal}
use Rattle.paper.specs.declared.Answer.{Answer}
use Rattle.general.specs.Below.{tally}
use Rattle.sets.specs.Set.{has}
use Rattle.general.specs.Tables.{tabulate, zeros-at}
use Rattle.flat_chart.specs.Chart.{roles_of, Fit}
use Rattle.graph.specs.Fitness.{FitMarking}
use Rattle.flat_chart.specs.Tests.{row_spill, spill_at, spill_of, roles_from, fit_tables, fit_chart}
use Rattle.graph.specs.Fitness.{fit_marking, fit}
use Rattle.flat_chart.specs.Fitness.{tested-fit}
use Rattle.graph.specs.Fitness.{fit-both}
use Rattle.graph.specs.Overruled.{standing_at}
use Rattle.flat_chart.specs.Roles.{Permits, permits}
use Rattle.graph.specs.Steps.{open_with, unmet_of, awaited_of, after_with, testing, stepping, stepping_by, executing, finishing, granting}
use Rattle.graph.specs.Examples.{none, pair, marking}
use Rattle.graph.specs.Examples as graph
use Rattle.flat_chart.specs.Flat.{FlatChart}
use Rattle.graph.specs.Flat.{Marking}
use Rattle.chart.specs.Reading.{reading}
use Rattle.chart.specs.ReadingGives.{reading-fit}
use Rattle.chart.specs.Flat.{Reading}
use Rattle.chart.specs.Examples.{whole_chart, group_chart, both_chart, both_reading}
use Rattle.chart.specs.Examples as examples
use Rattle.book.specs.Text.{snap_of}
use Rattle.general.specs.Lists.{flat}
use Rattle.book.specs.Image.{stages_in}
use Rattle.book.specs.ImageOf.{image-length, book-of-image}
use Rattle.book.specs.declared.Snapshot.{Snapshot}
use Rattle.order_theory.specs.Order as Order
use Rattle.order_theory.specs.Order.{counted_rules}
use Rattle.rule_order.specs.Rules.{counted, net_of}
use Rattle.rule_order.specs.Nets.{rules_of}
use Rattle.derived.specs.Derived.{derived_book}
use Rattle.smaller.specs.Smaller.{smaller_book}
use Rattle.smaller.specs.Examples as smaller
use Rattle.smaller.specs.Examples.{paper_smaller}
use Rattle.deriver.specs.Deriving.{derived_image}
use Rattle.deriver.specs.Matching.{matching_marks, matching_of}
use Rattle.deriver.specs.Examples.{paper_chart, paper_start, paper_book, worth}
use Rattle.deriver.specs.Examples as deriver
use Rattle.smaller_deriver.specs.Calling.{smaller_image}
use Rattle.listing.specs.Examples.{paper-listing}
use Rattle.judge.specs.Examples.{p9-loop, p10-pass, p10-clash, pair-pass, pair-loop}
use Rattle.runner.specs.Table.{Passes, Answered}
use Rattle.runner.specs.Table as table
use Rattle.runner.specs.Completing.{completing}
use Rattle.runner.specs.Completion.{granted-only, completes, written-fit}
use Rattle.runner.specs.Examples as runner
use Rattle.runner.specs.declared.Completion.{Completion}
use Rattle.gathering.specs.Behind.{bare}
use Rattle.read_back.specs.ReadingBack.{reading_back}
use Rattle.read_back.specs.Table.{read_back}
use Rattle.read_back.specs.Flat.{ReadBack}
use Rattle.promises.specs.Matching.{matched, marks-whole}
use Rattle.promises.specs.Demand2.{derived-passes, stages-are, Alike, written, ordered, Demand2}
use Rattle.promises.proofs.Demand2.{demand-2}
use Rattle.promises.proofs.Demand1.{demand-1}
use Rattle.promises.specs.ReadBack.{reads-back-as-promised}
use Rattle.promises.specs.SmallerBooks.{granted-smaller}
use Rattle.promises.specs.Looked.{full-granted, full-reaches}
use Rattle.promises.specs.Rows.{after0, after1, OnChart, OnBook, ByBook, BySmaller, Rows}

-- ---- P8, a step of the chart that the bytes give

p8-step : executing both_reading.chart both_reading.marking 2 0 ≡ granting (marking 4 0 7)
unfolding executing stepping_by stepping testing permits fit fit_chart fit_marking fit_tables roles_from spill_of spill_at row_spill has unmet_of awaited_of after_with count_trailing_zeros
p8-step = refl

paper-fit : Fit paper_chart
unfolding fit_chart fit_tables roles_from spill_of spill_at row_spill
paper-fit = tested-fit paper_chart refl

both-fit : Fit both_reading.chart
unfolding fit_chart fit_tables roles_from spill_of spill_at row_spill
both-fit = tested-fit both_reading.chart refl

paper-back : reading_back (derived_image paper_chart) ≡ read_back granted paper_chart
unfolding bare standing_at tabulate
paper-back = reads-back-as-promised.back paper_chart paper-fit

both-back : (reading_back (derived_image both_reading.chart)).chart.excludes ≡ replicate max_events 0
unfolding bare standing_at tabulate
both-back = ap (λ (r : ReadBack). r.chart.excludes) (reads-back-as-promised.back both_reading.chart both-fit)

paper-marked : FitMarking paper_chart.count paper_start
unfolding fit fit_chart fit_marking fit_tables roles_from spill_of spill_at row_spill
paper-marked = (fit-both paper_chart paper_start refl).1

paper-smaller : (bytes : List ℕ) → 138 ≤ length bytes → BySmaller (record { answer = granted; chart = paper_chart; marking = paper_start }) bytes
paper-smaller bytes h =
    let b : length (smaller_image paper_chart paper_start) ≡ 138 = image-length (smaller_book paper_chart paper_start) ∙ rw (smaller.examples).book in
    let (g, w) = granted-smaller paper_chart paper_start paper-fit paper-marked bytes (rw b h) in
    record { derives = rw g; book = rw w (book-of-image (smaller_book paper_chart paper_start) ∙ (smaller.examples).book); table = rw g (smaller.examples).table }

-- ---- P1 to P3, computed on the chart that the bytes give

whole_is : reading whole_chart ≡ record { answer = granted; chart = paper_chart; marking = paper_start }
whole_is = (examples.examples).whole

-- and stage 1 is closed at the start
on-chart : OnChart (reading whole_chart) × (snap_of (matching_of (reading whole_chart).chart (reading whole_chart).marking).snapshot.marks 1 ≡ false)
unfolding matching_of matching_marks open_with worth executing stepping_by stepping testing permits fit fit_chart fit_marking fit_tables roles_from spill_of spill_at row_spill has unmet_of awaited_of after_with count_trailing_zeros finishing flat
on-chart =
    subst (λ (r : Reading). OnChart r × (snap_of (matching_of r.chart r.marking).snapshot.marks 1 ≡ false)) (sym whole_is)
    (record { p1 = ((refl, refl), refl); p2 = (refl, (refl, refl)); p3 = (refl, (refl, refl), refl) }, refl)

-- ---- and on the book's side by demand 2

book-is : derived_book (reading whole_chart).chart ≡ paper_book
book-is = ap (λ (r : Reading). derived_book r.chart) whole_is ∙ (deriver.examples).book

-- 0 is granted, and the snapshot is whole again
zero-granted : (s l : List ℕ) (snapshot : Snapshot) (stage : ℕ) → length snapshot.marks ≡ max_marks → (completing s l snapshot stage).answer.code ≡ 0
    → ((completing s l snapshot stage).answer ≡ granted) × (length (completing s l snapshot stage).snapshot.marks ≡ max_marks)
zero-granted s l snapshot stage w e =
    let (p, f, o) = granted-only s l snapshot stage w e in
    let d = completes s p snapshot stage o l f in
    (d.granted, d.whole)

-- a closed stage, whole
closed-kept : (s l : List ℕ) (snapshot : Snapshot) (stage : ℕ) → Answered s l snapshot.marks stage (refusal stage_closed)
    → completing s l snapshot stage ≡ record { answer = refusal stage_closed; snapshot = snapshot }
closed-kept s l snapshot stage row =
    let a : refusal stage_closed ≡ (completing s l snapshot stage).answer = demand-1.complete_only s l snapshot stage (refusal stage_closed) row in
    ap₂ made (sym a) (demand-1.complete_refused s l snapshot stage (λ z. let c = ap (λ (x : Answer). x.code) a in omega arith))
  where
    made : Answer → Snapshot → Completion
    made x y = record { answer = x; snapshot = y }

module _ (bytes room : List ℕ) (h : 162 ≤ length bytes) (k : 7 ≤ length room) where
  abbrev c : FlatChart
  c = (reading whole_chart).chart

  abbrev m : Marking
  m = (reading whole_chart).marking

  abbrev s : List ℕ
  s = derived_image c

  fits : Fit c × FitMarking c.count m
  fits = reading-fit whole_chart (ap (λ (r : Reading). r.answer.code) whole_is)

  -- seven rules count for each of the two stages
  seven : (e : ℕ) → e < c.count → counted_rules (rules_of s e) ≤ length room
  unfolding net_of counted tally
  seven zero i = rw (book-of-image (derived_book c), book-is) k
  seven (suc zero) i = rw (book-of-image (derived_book c), book-is) k
  seven (suc (suc e)) i = absurd (let two : c.count ≡ 2 = ap (λ (r : Reading). r.chart.count) whole_is in omega arith)

  met : Demand2 c bytes room
  met =
      let b : length s ≡ 162 = image-length (derived_book c) ∙ rw book-is in
      demand-2 c fits.0 bytes room (rw b h) seven

  abbrev l : ℕ → List ℕ
  l = ordered (written c bytes) room

  -- along 0 and then 1, by role 0, since the chart names none
  along : Alike c l m ((0, 0) ∷ ((1, 0) ∷ []))
  along = met.agrees m fits.1 ((0, 0) ∷ ((1, 0) ∷ []))

  anyone : (e : ℕ) → Permits (roles_of c e) 0
  anyone e = record { known = omega arith; open-or-named = inl (ap (λ (r : Reading). roles_of r.chart e) whole_is ∙ zeros-at max_events e) }

  matched1 : (completing s (l 0) (matching_of c m).snapshot 0).snapshot ≡ (matching_of c (after0 (reading whole_chart))).snapshot
  matched1 = along.0.matches (anyone 0)

  granted0 : (completing s (l 0) (matching_of c m).snapshot 0).answer.code ≡ 0
  granted0 = (along.0.grants (anyone 0)).0 (ap (λ (a : Answer). a.code) on-chart.0.p2.0)

  granted1 : (completing s (l 1) (completing s (l 0) (matching_of c m).snapshot 0).snapshot 1).answer.code ≡ 0
  granted1 = rw matched1 ((along.1.0.grants (anyone 1)).0 (ap (λ (a : Answer). a.code) on-chart.0.p3.0))

  start-whole : length (matching_of c m).snapshot.marks ≡ max_marks
  start-whole = rw (matched c m fits.0 fits.1) (marks-whole c fits.0.few m)

  closed : completing s (l 1) (matching_of c m).snapshot 1 ≡ record { answer = refusal stage_closed; snapshot = (matching_of c m).snapshot }
  closed =
      let (p, _, o) = granted-only s (l 0) (matching_of c m).snapshot 0 start-whole granted0 in
      let two : c.count ≡ 2 = ap (λ (r : Reading). r.chart.count) whole_is in
      let known : 1 < stages_in s = omega (arith, stages-are c fits.0) in
      let g : Order.Fit (rules_of s 1) (ordered s room 1) =
      written-fit s 1 room (ap (λ (a : Answer). a.code) (derived-passes c fits.0 1 (length room) known (seven 1 (omega arith)))) in
      let f : Order.Fit (rules_of s 1) (l 1) = subst (λ (b : List ℕ). Order.Fit (rules_of s 1) (ordered b room 1)) (sym met.writes) g in
      closed-kept s (l 1) (matching_of c m).snapshot 1 (table.closed p known f o.belongs on-chart.1)

  on-book : OnBook (reading whole_chart) s l
  on-book =
      let first = zero-granted s (l 0) (matching_of c m).snapshot 0 start-whole granted0 in
      let u : Snapshot = (completing s (l 0) (matching_of c m).snapshot 0).snapshot in
      let next : (completing s (l 1) u 1).snapshot ≡ (matching_of c (after1 (reading whole_chart))).snapshot = rw matched1 (along.1.0.matches (anyone 1)) in
      record {
        p1 = closed;
        p2 = (first.0, ap (λ (x : Snapshot). worth x.marks) matched1 ∙ on-chart.0.p2.1.1);
        p3 = ((zero-granted s (l 1) u 1 first.1 granted1).0, ap (λ (x : Snapshot). worth x.marks) next ∙ on-chart.0.p3.1.1);
      }

  by-book : ByBook (reading whole_chart) bytes room
  by-book =
      let two : c.count ≡ 2 = ap (λ (r : Reading). r.chart.count) whole_is in
      record {
        derives = met.derives;
        passes = (met.passes 0 (omega arith), met.passes 1 (omega arith));
        runs = subst (λ (b : List ℕ). OnBook (reading whole_chart) b l) (sym met.writes) on-book;
      }

pub rows : Rows
rows =
    record {
      whole = whole_is;
      book = (deriver.examples).book;
      listing = paper-listing;
      on_chart = on-chart.0;
      by_book = by-book;
      p4 = (graph.examples).p4;
      p5 = (graph.examples).p5;
      p6 = (graph.examples).p6;
      p7 = ((examples.examples).p7-granted, (examples.examples).p7-conditions);
      back = paper-back;
      back_both = both-back;
      smaller = λ bytes h. subst (λ (r : Reading). BySmaller r bytes) (sym whole_is) (paper-smaller bytes h);
      p8 = ((examples.examples).p8, p8-step);
      p9 = p9-loop;
      p10 = (p10-pass.0, p10-pass.1, p10-clash.0);
      pair_passes = (pair-pass.0, pair-pass.1);
      pair_loops = pair-loop;
      full = (full-granted, full-reaches);
      p11 = runner.p11;
      p12 = runner.p12;
    }
