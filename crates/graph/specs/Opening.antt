-- Request (viii): what the open test gives, case by case, that its two sets are whole, and that the event is open once they are cleared. Assumes nothing.
use Rattle.std.specs.Prelude.{ℕ, ◌≤◌, ◌≡◌, refl, not, ◌↔◌, ◌⊎◌, eqb, leb}
use Rattle.std.proofs.Common.{sym, ap, ◌∙◌, inl, inr, ⊎_elim, arith}
use borrow.Author.Tests.{eq-eqb, eqb-true, le-leb, lt-leb, leb-true, leb-false, not-true}
use Rattle.paper.specs.Limits.{max_events, no_such_event, not_included, condition_wanting, milestone_wanting, unfit}
use Rattle.paper.specs.Answers.{answer}
use Rattle.general.specs.Cases.{contra, cases, both, either, or_right, not_so, same_test, coincide}
use Rattle.general.specs.Below.{tally, tally-same, Lowest, lowest-one}
use Rattle.general.specs.Refusals.{Refusals, when, unless, otherwise, first_row, Told, first-told, told-only, not-held}
use Rattle.sets.specs.Set.{has, union, minus, lowest}
use Rattle.sets.specs.Laws.{has-union, has-minus, none-zero}
use Rattle.flat_chart.specs.Chart.{condition, milestone, set_of, In, Fit}
use Rattle.graph.specs.Fitness.{FitMarking, fit}
use Rattle.graph.specs.Fitness.{fit-both, both-fit}
use Rattle.graph.specs.Steps.{unmet_of, awaited_of, is_open, shut, opened, testing, opening, counting}
use Rattle.graph.specs.Execution.{Enabled, Wanting, Awaiting, BothSets, Stands}
use Rattle.graph.specs.Execution.{open-enabled, whole, held_one, none_of, lowest-wanting, lowest-awaiting, some_in, frees, counts}
use Rattle.flat_chart.specs.Flat.{FlatChart}
use Rattle.graph.specs.Flat.{Marking, OpenTest}

-- ---- the rows

-- the lowest blocking event as place, and both sets
abbrev pub with_both : ℕ → ℕ → ℕ → ℕ → OpenTest
with_both code place conditions milestones = record { answer = answer code place 0; conditions = conditions; milestones = milestones }

-- "The test for an open event should give both whole sets: included conditions not yet executed, and included milestones still pending"; "code, place and order of codes
-- don't change"; "Other codes carry two empty sets."
pub data Opens (c : FlatChart) (m : Marking) (e : ℕ) : OpenTest → Type 0 where
  is_unfit : (Fit c → FitMarking c.count m → ⊥) → Opens c m e (shut unfit)
  is_gone : Fit c → FitMarking c.count m → c.count ≤ e → Opens c m e (shut no_such_event)
  is_excluded : Stands c m e → (In m.included e → ⊥) → Opens c m e (shut not_included)
  is_wanting : {f x y : ℕ} → Stands c m e → In m.included e → Lowest c.count (Wanting c m e) f → BothSets c m e x y → Opens c m e (with_both condition_wanting f x y)
  is_awaiting : {f x y : ℕ} → Stands c m e → In m.included e → ((g : ℕ) → Wanting c m e g → ⊥) → Lowest c.count (Awaiting c m e) f → BothSets c m e x y
      → Opens c m e (with_both milestone_wanting f x y)
  is_opened : Stands c m e → Enabled c m e → Opens c m e opened

-- ---- one row holds, and no other

module _ (c : FlatChart) (m : Marking) (e : ℕ) where
  unfoldable open_rows : Refusals (Opens c m e) (Unit {0})
  open_rows =
      unless (fit c m) (shut unfit) (λ _ h. is_unfit (λ f t. contra (both-fit c m f t) h)) (λ k. fit-both c m k.1, λ k. (tt, both-fit c m k.0 k.1))
      (when {N = Stands c m e} (leb c.count e) (shut no_such_event) (λ k h. is_gone k.0 k.1 (leb-true c.count e h))
      (λ k. record { chart = k.0.0; marking = k.0.1; exists = leb-false c.count e k.1 }, λ k. ((k.chart, k.marking), lt-leb c.count e k.exists))
      (unless (has m.included e) (shut not_included) (λ k h. is_excluded k (λ x. contra x h)) (λ k. k, λ k. k)
      (unless (eqb (unmet_of m (set_of c condition e)) 0) (with_both condition_wanting (lowest max_events (unmet_of m (set_of c condition e))) _ _)
      (λ k h. is_wanting k.0 k.1 (lowest-wanting c m e k.0 h) (whole c m e)) (λ k. k, λ k. k)
      (unless (eqb (awaited_of m (set_of c milestone e)) 0) (with_both milestone_wanting (lowest max_events (awaited_of m (set_of c milestone e))) _ _)
      (λ k h. is_awaiting k.0.0 k.0.1 (λ f x. some_in c m e _ f (((whole c m e).wanting f).1 x) k.1) (lowest-awaiting c m e k.0.0 h) (whole c m e)) (frees c m e)
      (otherwise opened (λ k. is_opened k.0 k.1))))))

  pub opens : Opens c m e (opening c m e)
  unfolding opening testing open_rows first_row
  opens = first-told open_rows tt

  pub opens-only : {t : OpenTest} → Opens c m e t → t ≡ opening c m e
  unfolding opening testing open_rows first_row Told
  opens-only (is_unfit n) = let h = not-held (λ ok. let t = fit-both c m ok in n t.0 t.1) in told-only open_rows (inl (tt, h, refl))
  opens-only (is_gone f t g) = told-only open_rows (inr (inl ((f, t), le-leb c.count e g, refl)))
  opens-only (is_excluded s x) = told-only open_rows (inr (inr (inl (s, not-held x, refl))))
  opens-only (is_wanting {f} s i l w) =
      let h = some_in c m e _ f (((whole c m e).wanting f).1 l.holds) in
      let q = held_one c m e (with_both condition_wanting) (lowest-one c.count (Wanting c m e) f _ l (lowest-wanting c m e s (not_so h))) w in
      told-only open_rows (inr (inr (inr (inl ((s, i), not-held h, q)))))
  opens-only (is_awaiting {f} s i n l w) =
      let z = eq-eqb _ 0 (none-zero (unmet_of m (set_of c condition e)) (λ g. not_so (λ h. n g (((whole c m e).wanting g).0 h)))) in
      let h = some_in c m e _ f (((whole c m e).awaiting f).1 l.holds) in
      let q = held_one c m e (with_both milestone_wanting) (lowest-one c.count (Awaiting c m e) f _ l (lowest-awaiting c m e s (not_so h))) w in
      told-only open_rows (inr (inr (inr (inr (inl (((s, i), z), not-held h, q))))))
  opens-only (is_opened s t) = told-only open_rows (inr (inr (inr (inr (inr ((s, t), refl))))))

  pub open-determined : (s t : OpenTest) → s ≡ opening c m e → t ≡ opening c m e → s ≡ t
  open-determined s t = coincide

-- ---- what the sets say

-- a code that carries the sets
abbrev pub Blocks : ℕ → Type 0
Blocks code = (code ≡ condition_wanting) ⊎ (code ≡ milestone_wanting)

module _ (c : FlatChart) (m : Marking) (e : ℕ) where
  held_back : {t : OpenTest} → Opens c m e t → Blocks t.answer.code → Stands c m e × In m.included e × BothSets c m e t.conditions t.milestones
  held_back (is_unfit _) b = ⊎_elim (λ h. absurd (omega arith)) (λ h. absurd (omega arith)) b
  held_back (is_gone _ _ _) b = ⊎_elim (λ h. absurd (omega arith)) (λ h. absurd (omega arith)) b
  held_back (is_excluded _ _) b = ⊎_elim (λ h. absurd (omega arith)) (λ h. absurd (omega arith)) b
  held_back (is_wanting s i _ w) b = (s, i, w)
  held_back (is_awaiting s i _ _ w) b = (s, i, w)
  held_back (is_opened _ _) b = ⊎_elim (λ h. absurd (omega arith)) (λ h. absurd (omega arith)) b

  -- with 12 and 13 they are exactly the events that hold e back
  pub sets-exact : Blocks (opening c m e).answer.code → BothSets c m e (opening c m e).conditions (opening c m e).milestones
  sets-exact b = (held_back (opens c m e) b).2

  -- 12 with a first set that is not empty, 13 with such a second one alone, or another code with two empty sets
  sorted : {t : OpenTest} → Opens c m e t
      → ((t.answer.code ≡ condition_wanting) × (t.conditions ≡ 0 → ⊥))
      ⊎ (((t.answer.code ≡ milestone_wanting) × (t.conditions ≡ 0) × (t.milestones ≡ 0 → ⊥))
      ⊎ ((Blocks t.answer.code → ⊥) × (t.conditions ≡ 0) × (t.milestones ≡ 0)))
  sorted (is_unfit _) = inr (inr (⊎_elim (λ h. omega arith) (λ h. omega arith), refl, refl))
  sorted (is_gone _ _ _) = inr (inr (⊎_elim (λ h. omega arith) (λ h. omega arith), refl, refl))
  sorted (is_excluded _ _) = inr (inr (⊎_elim (λ h. omega arith) (λ h. omega arith), refl, refl))
  sorted (is_wanting {f} _ _ l w) = inl (refl, λ z. none_of c m e _ z f ((w.wanting f).1 l.holds))
  sorted (is_awaiting {f} {x} _ _ n l w) = inr (inl (refl, none-zero x (λ g. not_so (λ h. n g ((w.wanting g).0 h))), λ z. none_of c m e _ z f ((w.awaiting f).1 l.holds)))
  sorted (is_opened _ _) = inr (inr (⊎_elim (λ h. omega arith) (λ h. omega arith), refl, refl))

  -- 12 exactly if the first set is not empty
  pub wanting-told : ((opening c m e).answer.code ≡ condition_wanting) ↔ ((opening c m e).conditions ≡ 0 → ⊥)
  wanting-told =
      ⊎_elim (λ k. (λ _. k.1, λ _. k.0)) (⊎_elim (λ k. (λ h. absurd (omega arith), λ h. absurd (h k.1))) (λ k. (λ h. absurd (k.0 (inl h)), λ h. absurd (h k.1))))
      (sorted (opens c m e))

  -- 13 exactly if the first is empty and the second is not
  pub awaiting-told : ((opening c m e).answer.code ≡ milestone_wanting) ↔ (((opening c m e).conditions ≡ 0) × ((opening c m e).milestones ≡ 0 → ⊥))
  awaiting-told =
      ⊎_elim (λ k. (λ h. absurd (omega arith), λ h. absurd (k.1 h.0)))
      (⊎_elim (λ k. (λ _. (k.1, k.2), λ _. k.0)) (λ k. (λ h. absurd (k.0 (inr h)), λ h. absurd (h.1 k.2))))
      (sorted (opens c m e))

  -- "Other codes carry two empty sets."
  pub others-empty : (Blocks (opening c m e).answer.code → ⊥) → ((opening c m e).conditions ≡ 0) × ((opening c m e).milestones ≡ 0)
  others-empty n = ⊎_elim (λ k. absurd (n (inl k.0))) (⊎_elim (λ k. absurd (n (inr k.0))) (λ k. (k.1, k.2))) (sorted (opens c m e))

  -- 0 exactly if the event is open
  pub opened-enabled : ((opening c m e).answer.code ≡ 0) ↔ (Stands c m e × Enabled c m e)
  opened-enabled = (go (opens c m e), λ k. ap (λ (t : OpenTest). t.answer.code) (sym (opens-only c m e (is_opened k.0 k.1))))
    where
      go : {t : OpenTest} → Opens c m e t → t.answer.code ≡ 0 → Stands c m e × Enabled c m e
      go (is_unfit _) z = absurd (omega arith)
      go (is_gone _ _ _) z = absurd (omega arith)
      go (is_excluded _ _) z = absurd (omega arith)
      go (is_wanting _ _ _ _) z = absurd (omega arith)
      go (is_awaiting _ _ _ _ _) z = absurd (omega arith)
      go (is_opened s t) z = (s, t)

-- ---- "my colleagues clear it, then get the next": once every condition in the first set has been executed and every milestone in the second is no longer pending,
-- with nothing else changed, the event is open

pub record Cleared (c : FlatChart) (m : Marking) (e : ℕ) (n : Marking) : Type 0 where
  pub executed : (f : ℕ) → In n.executed f ↔ (In m.executed f ⊎ In (opening c m e).conditions f)
  pub pending : (f : ℕ) → In n.pending f ↔ (In m.pending f × (In (opening c m e).milestones f → ⊥))
  pub included : n.included ≡ m.included

abbrev pub clear : FlatChart → Marking → ℕ → Marking
clear c m e = record { executed = union m.executed (opening c m e).conditions; pending = minus m.pending (opening c m e).milestones; included = m.included }

module _ (c : FlatChart) (m : Marking) (e : ℕ) where
  -- there is such a marking
  pub clear-cleared : Cleared c m e (clear c m e)
  clear-cleared =
      let x : ℕ = (opening c m e).conditions in
      let y : ℕ = (opening c m e).milestones in
      record {
        executed = λ f. (
          λ h. either (has m.executed f) (has x f) (sym (has-union m.executed x f) ∙ h) inl inr,
          λ t. has-union m.executed x f ∙ ⊎_elim (λ z. rw z) (or_right (has m.executed f) (has x f)) t,
        );
        pending = λ f. (
          λ h. let t = both (has m.pending f) (not (has y f)) (sym (has-minus m.pending y f) ∙ h) in (t.0, λ z. contra z (not-true _ t.1)),
          λ t. has-minus m.pending y f ∙ rw (t.0, not_so t.1),
        );
        included = refl;
      }

  pub cleared-open : Blocks (opening c m e).answer.code → (n : Marking) → Cleared c m e n → opening c n e ≡ opened
  cleared-open b n k =
      let (s, i, w) = held_back c m e (opens c m e) b in
      let fits : FitMarking c.count n = record {
        executed = λ f h. ⊎_elim (s.marking.executed f) (λ x. s.marking.included f ((w.wanting f).0 x).included) ((k.executed f).0 h);
        pending = λ f h. s.marking.pending f ((k.pending f).0 h).0;
        included = λ f h. s.marking.included f (rw k.included at h);
      } in
      sym (opens-only c n e (is_opened (record { chart = s.chart; marking = fits; exists = s.exists }) (record {
        included = rw k.included i;
        met = λ f h a. cases (has m.executed f) (λ x. (k.executed f).1 (inl x))
            (λ x. (k.executed f).1 (inr ((w.wanting f).1 (record { included = rw k.included at h; asked = a; missing = λ z. contra z x }))));
        answered = λ f h a p. let q = (k.pending f).0 p in q.1 ((w.awaiting f).1 (record { included = rw k.included at h; asked = a; pending = q.0 }));
      })))

  -- and not before: with the same events included, an open event has none of the first left to execute and none of the second pending
  pub each_needed : Blocks (opening c m e).answer.code → (n : Marking) → n.included ≡ m.included → (opening c n e).answer.code ≡ 0
      → ((f : ℕ) → In (opening c m e).conditions f → In n.executed f) × ((f : ℕ) → In (opening c m e).milestones f → In n.pending f → ⊥)
  each_needed b n q z =
      let w = sets-exact c m e b in
      let t = ((opened-enabled c n e).0 z).1 in (
        λ f h. let x = (w.wanting f).0 h in t.met f (rw q x.included) x.asked,
        λ f h. let x = (w.awaiting f).0 h in t.answered f (rw q x.included) x.asked,
      )

-- ---- "the count of open events calls the wider test and answers as before"

pub counted-by-test : (c : FlatChart) (m : Marking) → Fit c → FitMarking c.count m → (counting c m).count ≡ tally c.count (λ e. eqb (opening c m e).answer.code 0)
counted-by-test c m f t =
    (counts c m f t).number
    ∙ tally-same c.count (is_open c m) (λ e. eqb (opening c m e).answer.code 0) (λ e l. same_test _ _
    (λ h. eq-eqb _ 0 ((opened-enabled c m e).1 (record { chart = f; marking = t; exists = l }, (open-enabled c m e).0 h)))
    (λ h. (open-enabled c m e).1 ((opened-enabled c m e).0 (eqb-true _ 0 h)).1))
