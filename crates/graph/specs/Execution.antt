-- Document 000, Definitions 2 and 3, by membership, and what the paper says of executing, counting and the finished test. Assumes nothing.
use Rattle.std.specs.Prelude.{ℕ, ◌^◌, ◌≤◌, ◌<◌, ◌≡◌, refl, true, not, ◌&&◌, ◌↔◌, ◌⊎◌, eqb, leb, ltb}
use Rattle.std.proofs.Common.{sym, ap₂, ◌∙◌}
use Rattle.std.proofs.Math.Path.{ap}
use Rattle.std.proofs.Math.Bool.{false}
use Rattle.std.proofs.Math.Logic.{inl, inr, ⊎_elim}
use native.Mathlib.Omega.{arith}
use borrow.Author.Tests.{eq-eqb, ne_eqb, eqb-true, eqb-false, le-leb, lt-leb, leb-true, leb-false, lt-ltb, ltb-true, not-true}
use Rattle.paper.specs.Limits.{max_events, no_such_event, not_permitted, not_included, condition_wanting, milestone_wanting, unfit}
use Rattle.paper.specs.Answers.{answer, granted, refusal}
use Rattle.general.specs.Cases.{contra, cases, both, all3, either, or_right, not_so, same_test, coincide}
use Rattle.general.specs.Below.{tally, Lowest, lowest-one}
use Rattle.general.specs.Refusals.{Refusals, when, unless, otherwise, first_row, Told, first-told, told-only, not-held}
use Rattle.sets.specs.Set.{has, inter, minus, only, lowest}
use Rattle.sets.specs.Laws.{has-union, has-inter, has-minus, has-only, has-empty, none-zero, ext, lowest-has, lowest-lt, lowest-least, has-collect, size-collect, below, apart-not, not-apart}
use Rattle.sets.specs.Laws.{lowest-none}
use Rattle.flat_chart.specs.Chart.{condition, response, milestone, include, exclude, set_of, roles_of, In, Fit, row_of}
use Rattle.graph.specs.Fitness.{FitMarking, fit}
use Rattle.flat_chart.specs.Roles.{Permits, permits, permits-so}
use Rattle.graph.specs.Fitness.{fit-both, both-fit}
use Rattle.graph.specs.Steps.{unmet_of, awaited_of, open_with, is_open, after_with, after, refusing, granting, stepping_by, stepping-cases, executing}
use Rattle.graph.specs.Steps.{open_among, open_set, counting, finishing}
use Rattle.flat_chart.specs.Flat.{FlatChart}
use Rattle.graph.specs.Flat.{Marking, Step}
use Rattle.graph.specs.declared.steps.OpenCount.{OpenCount}
use Rattle.graph.specs.declared.steps.Finished.{Finished}

-- ---- the definitions

-- Definition 2: e is enabled if (a) it is included, (b) its included conditions are executed, (c) no included milestone of it is pending
pub record Enabled (c : FlatChart) (m : Marking) (e : ℕ) : Type 0 where
  pub included : In m.included e
  pub met : (f : ℕ) → In m.included f → In (set_of c condition e) f → In m.executed f
  pub answered : (f : ℕ) → In m.included f → In (set_of c milestone e) f → In m.pending f → ⊥

-- Definition 3: Ex' = Ex ∪ {e}, Re' = (Re \ {e}) ∪ (e •→), In' = (In \ (e →%)) ∪ (e →+)
pub record Executed (c : FlatChart) (m : Marking) (e : ℕ) (n : Marking) : Type 0 where
  pub executed : (f : ℕ) → In n.executed f ↔ (In m.executed f ⊎ (e ≡ f))
  pub pending : (f : ℕ) → In n.pending f ↔ ((In m.pending f × (e ≡ f → ⊥)) ⊎ In (set_of c response e) f)
  pub included : (f : ℕ) → In n.included f ↔ ((In m.included f × (In (set_of c exclude e) f → ⊥)) ⊎ In (set_of c include e) f)

-- f is an included condition of e that wants executing; an included milestone of e that is pending
pub record Wanting (c : FlatChart) (m : Marking) (e f : ℕ) : Type 0 where
  pub included : In m.included f
  pub asked : In (set_of c condition e) f
  pub missing : In m.executed f → ⊥

pub record Awaiting (c : FlatChart) (m : Marking) (e f : ℕ) : Type 0 where
  pub included : In m.included f
  pub asked : In (set_of c milestone e) f
  pub pending : In m.pending f

-- "both whole sets: included conditions not yet executed, and included milestones still pending"
pub record BothSets (c : FlatChart) (m : Marking) (e conditions milestones : ℕ) : Type 0 where
  pub wanting : (f : ℕ) → In conditions f ↔ Wanting c m e f
  pub awaiting : (f : ℕ) → In milestones f ↔ Awaiting c m e f

-- "Executing gives 14, 10, 11, 12, 13", and by request (i) 32 "after 10 and before 11": what the paper has a step give, case by case
pub record Stands (c : FlatChart) (m : Marking) (e : ℕ) : Type 0 where
  pub chart : Fit c
  pub marking : FitMarking c.count m
  pub exists : e < c.count

pub record Admitted (c : FlatChart) (m : Marking) (e r : ℕ) : Type 0 where
  pub stands : Stands c m e
  pub permitted : Permits (roles_of c e) r

-- "The step hands both on with code 12 or 13"
abbrev pub holding : ℕ → ℕ → ℕ → ℕ → Marking → Step
holding code place conditions milestones m = record { answer = answer code place 0; marking = m; conditions = conditions; milestones = milestones }

pub data Executes (c : FlatChart) (m : Marking) (e r : ℕ) : Step → Type 0 where
  is_unfit : (Fit c → FitMarking c.count m → ⊥) → Executes c m e r (refusing unfit 0 m)
  is_gone : Fit c → FitMarking c.count m → c.count ≤ e → Executes c m e r (refusing no_such_event 0 m)
  is_forbidden : Stands c m e → (Permits (roles_of c e) r → ⊥) → Executes c m e r (refusing not_permitted 0 m)
  is_excluded : Admitted c m e r → (In m.included e → ⊥) → Executes c m e r (refusing not_included 0 m)
  is_wanting : {f x y : ℕ} → Admitted c m e r → In m.included e → Lowest c.count (Wanting c m e) f → BothSets c m e x y
      → Executes c m e r (holding condition_wanting f x y m)
  is_awaiting : {f x y : ℕ} → Admitted c m e r → In m.included e → ((g : ℕ) → Wanting c m e g → ⊥) → Lowest c.count (Awaiting c m e) f → BothSets c m e x y
      → Executes c m e r (holding milestone_wanting f x y m)
  is_done : {n : Marking} → Admitted c m e r → Enabled c m e → Executed c m e n → Executes c m e r (granting n)

-- ---- the open rule

module _ (c : FlatChart) (m : Marking) (e : ℕ) where
  has-unmet : (f : ℕ) → has (unmet_of m (set_of c condition e)) f ≡ ((has m.included f && has (set_of c condition e) f) && not (has m.executed f))
  unfolding unmet_of
  has-unmet f = has-minus (inter m.included (set_of c condition e)) m.executed f ∙ rw (has-inter m.included (set_of c condition e) f)

  has-awaited : (f : ℕ) → has (awaited_of m (set_of c milestone e)) f ≡ ((has m.included f && has (set_of c milestone e) f) && has m.pending f)
  unfolding awaited_of
  has-awaited f = has-inter (inter m.included (set_of c milestone e)) m.pending f ∙ rw (has-inter m.included (set_of c milestone e) f)

  unmet-wanting : (f : ℕ) → In (unmet_of m (set_of c condition e)) f ↔ Wanting c m e f
  unmet-wanting f = (
    λ h. let t = all3 (has m.included f) (has (set_of c condition e) f) (not (has m.executed f)) (sym (has-unmet f) ∙ h) in
        record { included = t.0; asked = t.1; missing = λ x. contra x (not-true (has m.executed f) t.2) },
    λ w. has-unmet f ∙ rw (w.included, w.asked, not_so w.missing),
  )

  awaited-awaiting : (f : ℕ) → In (awaited_of m (set_of c milestone e)) f ↔ Awaiting c m e f
  awaited-awaiting f = (
    λ h. let t = all3 (has m.included f) (has (set_of c milestone e) f) (has m.pending f) (sym (has-awaited f) ∙ h) in
        record { included = t.0; asked = t.1; pending = t.2 },
    λ w. has-awaited f ∙ rw (w.included, w.asked, w.pending),
  )

  pub whole : BothSets c m e (unmet_of m (set_of c condition e)) (awaited_of m (set_of c milestone e))
  whole = record { wanting = unmet-wanting; awaiting = awaited-awaiting }

  pub none_of : (s : ℕ) → s ≡ 0 → (f : ℕ) → In s f → ⊥
  none_of s z f h = contra h (ap (λ (x : ℕ). has x f) z ∙ has-empty f)

  -- "Event e is open if it is in In, each included condition of e is in Ex, and no included milestone of e is in Re."
  pub open-enabled : (is_open c m e ≡ true) ↔ Enabled c m e
  unfolding open_with
  open-enabled = (
    λ h. let t = all3 (has m.included e) (eqb (unmet_of m (set_of c condition e)) 0) (eqb (awaited_of m (set_of c milestone e)) 0) h in
        record {
          included = t.0;
          met = λ f i a. cases (has m.executed f) (λ x. x) (λ x. absurd (none_of _ (eqb-true _ 0 t.1) f ((unmet-wanting f).1 (record { included = i; asked = a; missing = λ y. contra y x }))));
          answered = λ f i a p. none_of _ (eqb-true _ 0 t.2) f ((awaited-awaiting f).1 (record { included = i; asked = a; pending = p }));
        },
    λ t. rw (
      t.included,
      eq-eqb _ 0 (none-zero (unmet_of m (set_of c condition e)) (λ f. not_so (λ h. let w = (unmet-wanting f).0 h in w.missing (t.met f w.included w.asked)))),
      eq-eqb _ 0 (none-zero (awaited_of m (set_of c milestone e)) (λ f. not_so (λ h. let w = (awaited-awaiting f).0 h in t.answered f w.included w.asked w.pending))),
    ),
  )

  -- ---- the next marking

  pub after-executed : Executed c m e (after c m e)
  unfolding after_with
  after-executed =
      record {
        executed = λ f. (
          λ h. either (has m.executed f) (has (only e) f) (sym (has-union m.executed (only e) f) ∙ h) inl (λ x. inr (eqb-true e f (sym (has-only e f) ∙ x))),
          λ t. has-union m.executed (only e) f ∙ ⊎_elim (λ x. rw x) (λ x. or_right (has m.executed f) (has (only e) f) (has-only e f ∙ eq-eqb e f x)) t,
        );
        pending = λ f. (
          λ h. either (has (minus m.pending (only e)) f) (has (set_of c response e) f) (sym (has-union (minus m.pending (only e)) (set_of c response e) f) ∙ h)
              (λ x. let t = both (has m.pending f) (not (has (only e) f)) (sym (has-minus m.pending (only e) f) ∙ x) in
              inl (t.0, λ z. contra (has-only e f ∙ eq-eqb e f z) (not-true _ t.1))) inr,
          λ t. has-union (minus m.pending (only e)) (set_of c response e) f
              ∙ ⊎_elim (λ x. rw (has-minus m.pending (only e) f, x.0, has-only e f, ne_eqb e f x.1))
              (λ x. or_right (has (minus m.pending (only e)) f) (has (set_of c response e) f) x) t,
        );
        included = λ f. (
          λ h. either (has (minus m.included (set_of c exclude e)) f) (has (set_of c include e) f) (sym (has-union (minus m.included (set_of c exclude e)) (set_of c include e) f) ∙ h)
              (λ x. let t = both (has m.included f) (not (has (set_of c exclude e) f)) (sym (has-minus m.included (set_of c exclude e) f) ∙ x) in
              inl (t.0, λ z. contra z (not-true _ t.1))) inr,
          λ t. has-union (minus m.included (set_of c exclude e)) (set_of c include e) f
              ∙ ⊎_elim (λ x. rw (has-minus m.included (set_of c exclude e) f, x.0, not_so x.1))
              (λ x. or_right (has (minus m.included (set_of c exclude e)) f) (has (set_of c include e) f) x) t,
        );
      }

-- two markings that Definition 3 gives are one
same_set : (s t : ℕ) (P : ℕ → Type 0) → ((f : ℕ) → In s f ↔ P f) → ((f : ℕ) → In t f ↔ P f) → s ≡ t
same_set s t P a b = ext s t (λ f. same_test (has s f) (has t f) (λ h. (b f).1 ((a f).0 h)) (λ h. (a f).1 ((b f).0 h)))

abbrev made : ℕ → ℕ → ℕ → Marking
made x p i = record { executed = x; pending = p; included = i }

pub executed-one : (c : FlatChart) (m : Marking) (e : ℕ) (n k : Marking) → Executed c m e n → Executed c m e k → n ≡ k
executed-one c m e n k a b =
    let x = same_set n.executed k.executed _ a.executed b.executed in
    let p = same_set n.pending k.pending _ a.pending b.pending in
    let i = same_set n.included k.included _ a.included b.included in
    ap₂ (λ (x y : ℕ). made x y n.included) x p ∙ ap (made k.executed k.pending) i

-- no other two sets are whole
whole-one : (c : FlatChart) (m : Marking) (e x y : ℕ) → BothSets c m e x y → (x ≡ unmet_of m (set_of c condition e)) × (y ≡ awaited_of m (set_of c milestone e))
whole-one c m e x y w = let k = whole c m e in (same_set x _ _ w.wanting k.wanting, same_set y _ _ w.awaiting k.awaiting)

-- ---- executing is what the paper says

module _ (c : FlatChart) (m : Marking) (e : ℕ) where
  -- the lowest member of a set of included events
  lowest-in : Fit c → FitMarking c.count m → (P : ℕ → Type 0) (s : ℕ) → ((f : ℕ) → In s f ↔ P f) → ((f : ℕ) → P f → In m.included f) → (s ≡ 0 → ⊥)
      → Lowest c.count P (lowest max_events s)
  lowest-in k t P s h i n =
      let few : c.count ≤ max_events = k.few in
      let b : s < 2 ^ max_events = below max_events s (λ f l. not_so (λ x. let u : f < c.count = t.included f (i f ((h f).0 x)) in absurd (omega arith))) in
      let x : P (lowest max_events s) = (h (lowest max_events s)).0 (lowest-has max_events s (lowest-lt max_events s (omega arith) b)) in
      record {
        fits = t.included _ (i _ x);
        holds = x;
        least = λ g l p. contra ((h g).1 p) (lowest-least max_events s g l);
      }

  pub lowest-wanting : Stands c m e → eqb (unmet_of m (set_of c condition e)) 0 ≡ false → Lowest c.count (Wanting c m e) (lowest max_events (unmet_of m (set_of c condition e)))
  lowest-wanting s h = lowest-in s.chart s.marking (Wanting c m e) (unmet_of m (set_of c condition e)) (unmet-wanting c m e) (λ f x. x.included) (eqb-false _ 0 h)

  pub lowest-awaiting : Stands c m e → eqb (awaited_of m (set_of c milestone e)) 0 ≡ false → Lowest c.count (Awaiting c m e) (lowest max_events (awaited_of m (set_of c milestone e)))
  lowest-awaiting s h = lowest-in s.chart s.marking (Awaiting c m e) (awaited_of m (set_of c milestone e)) (awaited-awaiting c m e) (λ f x. x.included) (eqb-false _ 0 h)

  pub some_in : (s f : ℕ) → In s f → eqb s 0 ≡ true → ⊥
  some_in s f h z = contra h (ap (λ (x : ℕ). has x f) (eqb-true s 0 z) ∙ has-empty f)

  -- no test of the event's own holds it back: it is enabled
  pub frees : {B : Type 0} → (((B × In m.included e) × (eqb (unmet_of m (set_of c condition e)) 0 ≡ true)) × (eqb (awaited_of m (set_of c milestone e)) 0 ≡ true)) ↔ (B × Enabled c m e)
  unfolding open_with
  frees = (
    λ k. (k.0.0.0, (open-enabled c m e).0 (rw (k.0.0.1, k.0.1, k.1))),
    λ k. let o = all3 (has m.included e) (eqb (unmet_of m (set_of c condition e)) 0) (eqb (awaited_of m (set_of c milestone e)) 0) ((open-enabled c m e).1 k.1) in
        (((k.0, o.0), o.1), o.2),
  )

  -- the rows in the order in which executing tests them
  unfoldable execution_rows : (r : ℕ) → Refusals (Executes c m e r) (Unit {0})
  execution_rows r =
      unless (fit c m) (refusing unfit 0 m) (λ _ h. is_unfit (λ f t. contra (both-fit c m f t) h))
      (λ k. fit-both c m k.1, λ k. (tt, both-fit c m k.0 k.1))
      (when {N = Stands c m e} (leb c.count e) (refusing no_such_event 0 m) (λ k h. is_gone k.0 k.1 (leb-true c.count e h))
      (λ k. record { chart = k.0.0; marking = k.0.1; exists = leb-false c.count e k.1 }, λ k. ((k.chart, k.marking), lt-leb c.count e k.exists))
      (unless {N = Admitted c m e r} (permits (roles_of c e) r) (refusing not_permitted 0 m) (λ k h. is_forbidden k (λ x. contra ((permits-so (roles_of c e) r).1 x) h))
      (λ k. record { stands = k.0; permitted = (permits-so (roles_of c e) r).0 k.1 }, λ k. (k.stands, (permits-so (roles_of c e) r).1 k.permitted))
      (unless (has m.included e) (refusing not_included 0 m) (λ k h. is_excluded k (λ x. contra x h)) (λ k. k, λ k. k)
      (unless (eqb (unmet_of m (set_of c condition e)) 0) (holding condition_wanting (lowest max_events (unmet_of m (set_of c condition e))) _ _ m)
      (λ k h. is_wanting k.0 k.1 (lowest-wanting k.0.stands h) (whole c m e)) (λ k. k, λ k. k)
      (unless (eqb (awaited_of m (set_of c milestone e)) 0) (holding milestone_wanting (lowest max_events (awaited_of m (set_of c milestone e))) _ _ m)
      (λ k h. is_awaiting k.0.0 k.0.1 (λ f x. some_in _ f ((unmet-wanting c m e f).1 x) k.1) (lowest-awaiting k.0.0.stands h) (whole c m e)) frees
      (otherwise (granting (after c m e)) (λ k. is_done k.0 k.1 (after-executed c m e))))))))

  -- an answer from a place and two whole sets is one
  pub held_one : {A : Type 0} (a : ℕ → ℕ → ℕ → A) {f g x y : ℕ} → f ≡ g → BothSets c m e x y
      → a f x y ≡ a g (unmet_of m (set_of c condition e)) (awaited_of m (set_of c milestone e))
  held_one a {f} {g} {x} {y} p w = let (q, z) = whole-one c m e x y w in rw (p, q, z)

  executing-rows : (r : ℕ) → executing c m e r ≡ first_row (execution_rows r)
  unfolding executing stepping_by execution_rows first_row
  executing-rows r = rw (stepping-cases m e (row_of c e))

  pub executes : (r : ℕ) → Executes c m e r (executing c m e r)
  executes r = rw (executing-rows r) (first-told (execution_rows r) tt)

  -- and nothing else: whatever the paper's cases allow is what executing gives
  told-executing : (r : ℕ) {s : Step} → Told (execution_rows r) s → s ≡ executing c m e r
  told-executing r w = told-only (execution_rows r) w ∙ sym (executing-rows r)

  pub executes-only : {r : ℕ} {s : Step} → Executes c m e r s → s ≡ executing c m e r
  unfolding execution_rows Told
  executes-only {r} (is_unfit n) = let h = not-held (λ ok. let t = fit-both c m ok in n t.0 t.1) in told-executing r (inl (tt, h, refl))
  executes-only {r} (is_gone f t g) = told-executing r (inr (inl ((f, t), le-leb c.count e g, refl)))
  executes-only {r} (is_forbidden s x) = told-executing r (inr (inr (inl (s, not-held (λ o. x ((permits-so (roles_of c e) r).0 o)), refl))))
  executes-only {r} (is_excluded s x) = told-executing r (inr (inr (inr (inl (s, not-held x, refl)))))
  executes-only {r} (is_wanting {f} s i l w) =
      let h = some_in _ f ((unmet-wanting c m e f).1 l.holds) in
      let q = held_one (λ f x y. holding condition_wanting f x y m) (lowest-one c.count (Wanting c m e) f _ l (lowest-wanting s.stands (not_so h))) w in
      told-executing r (inr (inr (inr (inr (inl ((s, i), not-held h, q))))))
  executes-only {r} (is_awaiting {f} s i n l w) =
      let z = eq-eqb _ 0 (none-zero (unmet_of m (set_of c condition e)) (λ g. not_so (λ h. n g ((unmet-wanting c m e g).0 h)))) in
      let h = some_in _ f ((awaited-awaiting c m e f).1 l.holds) in
      let q = held_one (λ f x y. holding milestone_wanting f x y m) (lowest-one c.count (Awaiting c m e) f _ l (lowest-awaiting s.stands (not_so h))) w in
      told-executing r (inr (inr (inr (inr (inr (inl (((s, i), z), not-held h, q)))))))
  executes-only {r} (is_done {n} s t x) = told-executing r (inr (inr (inr (inr (inr (inr ((s, t), ap granting (executed-one c m e n _ x (after-executed c m e)))))))))

  -- a refused step returns its marking; a granted one is that of an admitted, enabled event, and is Definition 3's
  kept-or-done : {r : ℕ} {s : Step} → Executes c m e r s → ((s.answer.code ≡ 0 → ⊥) × (s.marking ≡ m)) ⊎ (Admitted c m e r × Enabled c m e × Executed c m e s.marking)
  kept-or-done (is_unfit _) = inl (λ h. omega arith, refl)
  kept-or-done (is_gone _ _ _) = inl (λ h. omega arith, refl)
  kept-or-done (is_forbidden _ _) = inl (λ h. omega arith, refl)
  kept-or-done (is_excluded _ _) = inl (λ h. omega arith, refl)
  kept-or-done (is_wanting _ _ _ _) = inl (λ h. omega arith, refl)
  kept-or-done (is_awaiting _ _ _ _ _) = inl (λ h. omega arith, refl)
  kept-or-done (is_done s t x) = inr (s, t, x)

  -- granted exactly if enabled, by a role that may
  pub granted-enabled : (r : ℕ) → ((executing c m e r).answer.code ≡ 0) ↔ (Admitted c m e r × Enabled c m e)
  granted-enabled r = (
    λ h. ⊎_elim (λ k. absurd (k.0 h)) (λ k. (k.0, k.1)) (kept-or-done (executes r)),
    λ t. ap (λ (s : Step). s.answer.code) (sym (executes-only (is_done t.0 t.1 (after-executed c m e)))),
  )

  pub granted-executed : (r : ℕ) → (executing c m e r).answer.code ≡ 0 → Executed c m e (executing c m e r).marking
  granted-executed r h = ⊎_elim (λ k. absurd (k.0 h)) (λ k. k.2) (kept-or-done (executes r))

  pub refused-kept : (r : ℕ) → ((executing c m e r).answer.code ≡ 0 → ⊥) → (executing c m e r).marking ≡ m
  refused-kept r h = ⊎_elim (λ k. k.1) (λ k. absurd (h ((granted-enabled r).1 (k.0, k.1)))) (kept-or-done (executes r))

  -- a granted step keeps the marking fit
  pub after-fit : Fit c → FitMarking c.count m → e < c.count → FitMarking c.count (after c m e)
  after-fit f t h =
      let x = after-executed c m e in
      record {
        executed = λ g i. ⊎_elim (t.executed g) (λ z. rw z at h) ((x.executed g).0 i);
        pending = λ g i. ⊎_elim (λ p. t.pending g p.0) (f.inside response e g h) ((x.pending g).0 i);
        included = λ g i. ⊎_elim (λ p. t.included g p.0) (f.inside include e g h) ((x.included g).0 i);
      }

  pub step-fit : (r : ℕ) → (executing c m e r).answer.code ≡ 0 → FitMarking c.count (executing c m e r).marking
  step-fit r h =
      let t = (granted-enabled r).0 h in
      let one : executing c m e r ≡ granting (after c m e) = sym (executes-only (is_done t.0 t.1 (after-executed c m e))) in
      rw one (after-fit t.0.stands.chart t.0.stands.marking t.0.stands.exists)

-- ---- counting and the finished test

-- "A call reports the number of open events and the lowest-numbered one (64 if none)", 256 by request (xiv)
pub record Counts (c : FlatChart) (m : Marking) (r : OpenCount) : Type 0 where
  pub granting : r.answer ≡ granted
  pub number : r.count ≡ tally c.count (is_open c m)
  pub lowest : (r.lowest < c.count → Lowest c.count (Enabled c m) r.lowest) × ((r.lowest < c.count → ⊥) → (r.lowest ≡ max_events) × ((e : ℕ) → e < c.count → Enabled c m e → ⊥))

module _ (c : FlatChart) (m : Marking) where
  open_in : (e : ℕ) → In (open_set c m) e ↔ ((e < c.count) × Enabled c m e)
  unfolding open_among
  open_in e = (
    λ h. let t = both (ltb e c.count) (is_open c m e) (sym (has-collect c.count (is_open c m) e) ∙ h) in (ltb-true e c.count t.0, (open-enabled c m e).0 t.1),
    λ t. has-collect c.count (is_open c m) e ∙ rw (lt-ltb e c.count t.0, (open-enabled c m e).1 t.1),
  )

  pub counts : Fit c → FitMarking c.count m → Counts c m (counting c m)
  unfolding counting open_among
  counts f t =
      rw (both-fit c m f t)
      (record {
        granting = refl;
        number = size-collect c.count (is_open c m);
        lowest = (
          λ h. record {
            fits = h;
            holds = ((open_in (lowest max_events (open_set c m))).0 (lowest-has max_events (open_set c m) (let l : c.count ≤ max_events = f.few in omega arith))).1;
            least = λ g l x. contra ((open_in g).1 (omega arith, x)) (lowest-least max_events (open_set c m) g l);
          },
          λ h. none h,
        );
      })
    where
      none : (lowest max_events (open_set c m) < c.count → ⊥) → (lowest max_events (open_set c m) ≡ max_events) × ((e : ℕ) → e < c.count → Enabled c m e → ⊥)
      none h =
          let no : (e : ℕ) → e < c.count → Enabled c m e → ⊥ = λ e l x. contra ((open_in e).1 (l, x)) (lowest-least max_events (open_set c m) e (omega arith)) in
          let z : open_set c m ≡ 0 = none-zero (open_set c m) (λ e. not_so (λ i. let u = (open_in e).0 i in no e u.0 u.1)) in
          (rw z (lowest-none max_events), no)

  -- "A marking is finished if no event is both in In and in Re."
  pub finished-when : Fit c → FitMarking c.count m → ((finishing c m).yes ≡ true) ↔ ((e : ℕ) → In m.included e → In m.pending e → ⊥)
  unfolding finishing
  finished-when f t =
      rw (both-fit c m f t) (
        λ h e. apart-not m.included m.pending e (eqb-true _ 0 h),
        λ h. eq-eqb _ 0 (not-apart m.included m.pending h),
      )

  -- "a refused count 0 and 64; a refused finished test no": 0 and 256 by request (xiv)
  pub count-refused : (Fit c → FitMarking c.count m → ⊥) → counting c m ≡ record { answer = refusal unfit; count = 0; lowest = max_events }
  unfolding counting
  count-refused n = let no : fit c m ≡ false = not_so (λ ok. let t = fit-both c m ok in n t.0 t.1) in rw no

  pub finish-refused : (Fit c → FitMarking c.count m → ⊥) → finishing c m ≡ record { answer = refusal unfit; yes = false }
  unfolding finishing
  finish-refused n = let no : fit c m ≡ false = not_so (λ ok. let t = fit-both c m ok in n t.0 t.1) in rw no

-- ---- two results that meet a call's contract coincide

module _ (c : FlatChart) (m : Marking) where
  pub execute-determined : (e r : ℕ) (s t : Step) → s ≡ executing c m e r → t ≡ executing c m e r → s ≡ t
  execute-determined e r s t = coincide

  pub count-determined : (r s : OpenCount) → r ≡ counting c m → s ≡ counting c m → r ≡ s
  count-determined r s = coincide

  pub finished-determined : (r s : Finished) → r ≡ finishing c m → s ≡ finishing c m → r ≡ s
  finished-determined r s = coincide
