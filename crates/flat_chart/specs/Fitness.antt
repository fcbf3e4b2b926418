-- The test says exactly what fit means. Assumes nothing.
use Prim.Native.Nat.{ℕ, zero, suc, ◌+◌, ◌-◌, ◌≤◌, ◌<◌}
use Rattle.std.specs.Prelude.{◌≡◌, true, ◌||◌, ◌↔◌, List, eqb, leb, ltb}
use Rattle.std.proofs.Math.Path.{refl}
use Rattle.std.proofs.Common.{sym, ap, ◌∙◌, arith}
use Rattle.std.proofs.Math.Bool.{Bool, or-true}
use Rattle.std.proofs.Math.ListN.{get_or}
use borrow.Author.Tests.{lt-ltb, le-ltb, ltb-true, ltb-false, le-leb, leb-true, eq-eqb, eqb-true}
use borrow.Author.Count.{below_more}
use Rattle.paper.specs.Limits.{max_events}
use Rattle.general.specs.Cases.{contra, cases, both, all3, either, not_so}
use Rattle.general.specs.Below.{every, every-at, every_of}
use Rattle.sets.specs.Set.{has, union, minus, all_below}
use Rattle.sets.specs.Laws.{has-union, has-empty, has_all, none-zero, union-zero, minus-none, none-minus}
use Rattle.flat_chart.specs.Flat.{FlatChart}
use Rattle.flat_chart.specs.Chart.{Kind, condition, response, milestone, include, exclude, set_of, In, Fit}
use Rattle.flat_chart.specs.Tests.{allowed_at, row_spill, spill_at, spill_of, roles_from, fit_tables, fit_chart}

-- ---- one row: nothing spills exactly if each set keeps to what it may hold

-- the sets of event e together, and what they may hold
module _ (c : FlatChart) (e w : ℕ) where
  unfoldable all-sets : ℕ
  all-sets = union (union (union (union (set_of c condition e) (set_of c response e)) (set_of c milestone e)) (set_of c include e)) (set_of c exclude e)

  member : Kind → ℕ → Bool
  member k f = has (set_of c k e) f

  has-all-sets : (f : ℕ) → has all-sets f ≡ ((((member condition f || member response f) || member milestone f) || member include f) || member exclude f)
  unfolding all-sets member
  has-all-sets f = simp has-union

  each_in : (k : Kind) (f : ℕ) → In (set_of c k e) f → In all-sets f
  unfolding member
  each_in condition f h = has-all-sets f ∙ simp h
  each_in response f h = has-all-sets f ∙ simp (h, or-true)
  each_in milestone f h = has-all-sets f ∙ simp (h, or-true)
  each_in include f h = has-all-sets f ∙ simp (h, or-true)
  each_in exclude f h = has-all-sets f ∙ simp (h, or-true)

  in-each : (C : Type 0) (f : ℕ) → In all-sets f → ((k : Kind) → In (set_of c k e) f → C) → C
  unfolding member
  in-each C f h g =
      let a : Bool = member condition f in
      let b : Bool = member response f in
      let d : Bool = member milestone f in
      let i : Bool = member include f in
      either (((a || b) || d) || i) (member exclude f) (sym (has-all-sets f) ∙ h)
      (λ h. either ((a || b) || d) i h (λ h. either (a || b) d h (λ h. either a b h (g condition) (g response)) (g milestone)) (g include))
      (g exclude)

  row-clean : ((k : Kind) (f : ℕ) → In (set_of c k e) f → In w f)
      → eqb (row_spill w (set_of c condition e) (set_of c response e) (set_of c milestone e) (set_of c include e) (set_of c exclude e)) 0 ≡ true
  unfolding row_spill all-sets
  row-clean h = eq-eqb (minus all-sets w) 0 (none-minus all-sets w (λ f i. in-each (In w f) f i (λ k. h k f)))

  clean-row : eqb (row_spill w (set_of c condition e) (set_of c response e) (set_of c milestone e) (set_of c include e) (set_of c exclude e)) 0 ≡ true
      → (k : Kind) (f : ℕ) → In (set_of c k e) f → In w f
  unfolding row_spill all-sets
  clean-row t k f h = minus-none all-sets w (eqb-true _ 0 t) f (each_in k f h)

-- ---- all rows

abbrev clean : FlatChart → ℕ → ℕ → Bool
clean c n e = eqb (spill_at n c.conditions c.responses c.milestones c.includes c.excludes e) 0

spill-every : (c : FlatChart) (n k : ℕ) → eqb (spill_of n c.conditions c.responses c.milestones c.includes c.excludes k) 0 ≡ every k (clean c n)
unfolding spill_of every
spill-every c n zero = refl
spill-every c n (suc k) =
    union-zero (spill_of n c.conditions c.responses c.milestones c.includes c.excludes k) (spill_at n c.conditions c.responses c.milestones c.includes c.excludes k)
    ∙ rw (spill-every c n k)

-- ---- the roles past the count

module _ (roles : List ℕ) (n : ℕ) where
  unnamed-from : (k : ℕ) → ((i : ℕ) → i < k → get_or roles (n + i) 0 ≡ 0) → eqb (roles_from roles n k) 0 ≡ true
  unfolding roles_from
  unnamed-from zero h = refl
  unnamed-from (suc k) h = union-zero (roles_from roles n k) (get_or roles (n + k) 0) ∙ rw (unnamed-from k (λ i l. h i (omega arith)), h k (omega arith))

  from-unnamed : (k : ℕ) → eqb (roles_from roles n k) 0 ≡ true → (i : ℕ) → i < k → get_or roles (n + i) 0 ≡ 0
  unfolding roles_from
  from-unnamed zero h i l = absurd (omega arith)
  from-unnamed (suc k) h i l =
      let t = both (eqb (roles_from roles n k) 0) (eqb (get_or roles (n + k) 0) 0) (sym (union-zero (roles_from roles n k) (get_or roles (n + k) 0)) ∙ h) in
      below_more (λ (i : ℕ). get_or roles (n + i) 0 ≡ 0) k (from-unnamed k t.0) (eqb-true (get_or roles (n + k) 0) 0 t.1) i (omega arith)

-- ---- the test and the sentence

module _ (c : FlatChart) where
  pub fit-tested : Fit c → fit_chart c ≡ true
  unfolding fit_chart fit_tables spill_at
  fit-tested t =
      rw (
        le-leb 1 c.count t.some,
        le-leb c.count max_events t.few,
        spill-every c c.count max_events,
        every_of max_events (clean c c.count) (λ e l. row-clean c e (allowed_at (all_below c.count) e c.count) (λ k f h. kept k e f l h)),
        unnamed-from c.roles c.count (max_events - c.count) (λ i l. t.unnamed (c.count + i) (omega arith) (omega arith)),
      )
    where
      kept : (k : Kind) (e f : ℕ) → e < max_events → In (set_of c k e) f → In (allowed_at (all_below c.count) e c.count) f
      kept k e f l h =
          cases (ltb e c.count)
          (λ b. rw b (has_all c.count f ∙ lt-ltb f c.count (t.inside k e f (ltb-true e c.count b) h)))
          (λ b. contra h (ap (λ (s : ℕ). has s f) (t.past k e (ltb-false e c.count b) l) ∙ has-empty f))

  module _ (h : fit_chart c ≡ true) where
    tested : (leb 1 c.count ≡ true) × (leb c.count max_events ≡ true) × (fit_tables c.count c ≡ true)
    unfolding fit_chart
    tested = all3 _ _ _ h

    tables : (eqb (spill_of c.count c.conditions c.responses c.milestones c.includes c.excludes max_events) 0 ≡ true)
        × (eqb (roles_from c.roles c.count (max_events - c.count)) 0 ≡ true)
    unfolding fit_tables
    tables =
        both (eqb (spill_of c.count c.conditions c.responses c.milestones c.includes c.excludes max_events) 0)
        (eqb (roles_from c.roles c.count (max_events - c.count)) 0) tested.2

    row : (e : ℕ) → e < max_events → (k : Kind) (f : ℕ) → In (set_of c k e) f → In (allowed_at (all_below c.count) e c.count) f
    unfolding spill_at
    row e l = clean-row c e _ (every-at max_events (clean c c.count) e (sym (spill-every c c.count max_events) ∙ tables.0) l)

    pub tested-fit : Fit c
    tested-fit =
        record {
          some = leb-true 1 c.count tested.0;
          few = leb-true c.count max_events tested.1;
          inside = λ k e f l i.
              let m : c.count ≤ max_events = leb-true c.count max_events tested.1 in
              ltb-true f c.count (sym (has_all c.count f) ∙ rw (lt-ltb e c.count l) at (row e (omega arith) k f i));
          past = λ k e l m. none-zero (set_of c k e) (λ f. not_so (λ i. contra (rw (le-ltb e c.count l) at (row e m k f i)) (has-empty f)));
          unnamed = λ e l m.
              let z : c.count + (e - c.count) ≡ e = omega arith in
              rw z at (from-unnamed c.roles c.count (max_events - c.count) tables.1 (e - c.count) (omega arith));
        }

pub fit-chart : (c : FlatChart) → (fit_chart c ≡ true) ↔ Fit c
fit-chart c = (tested-fit c, fit-tested c)
