-- Request (i), of what reading and executing give: an event that names roles is never executed by another, along any sequence of steps; and stored
-- charts, which name none, read and step as they did. Assumes nothing.
use Prim.Native.Nat.{ℕ, zero, suc, ◌+◌, ◌-◌, ◌<◌}
use Rattle.std.specs.Prelude.{◌≡◌, Bool, not, cond, ◌&&◌, ◌↔◌, ◌⊎◌, replicate, eqb, leb}
use Rattle.std.proofs.Math.Path.{refl, ap}
use Rattle.std.proofs.Common.{sym, ◌∙◌, inr, ⊎_elim, arith, eq-eqb}
use Rattle.std.proofs.Math.Bool.{and-true}
use Rattle.std.proofs.Math.Logic.{inl}
use mathlib.Core.List.{List, [], ◌∷◌}
use Rattle.std.proofs.Math.ListN.{get_or}
use Rattle.paper.specs.Limits.{max_events, max_roles, include_exclude, no_such_event, not_permitted, unfit}
use Rattle.general.specs.Cases.{contra, not_so}
use Rattle.sets.specs.Set.{has}
use Rattle.sets.specs.Laws.{has-empty, has-union, none-zero}
use Rattle.general.specs.Tables.{zeros-at}
use Rattle.flat_chart.specs.Chart.{roles_of, Fit, row_of}
use Rattle.graph.specs.Fitness.{FitMarking, fit_marking, fit}
use Rattle.flat_chart.specs.Tests.{roles_from}
use Rattle.graph.specs.Before.{Apart, spill_of_then, fit_tables_then, fit_chart_then, fit_then, fit-as-then}
use Rattle.flat_chart.specs.Roles.{Permits, permits-so}
use Rattle.graph.specs.Steps.{refusing, executing}
use Rattle.graph.specs.Execution.{granted-enabled, executes-only, is_forbidden, refused-kept}
use Rattle.graph.specs.HandedOn.{StepThen, refusing_then, stepping_then, stepping_by_then, executing_then, left_out, step-as-then}
use Rattle.flat_chart.specs.Flat.{FlatChart}
use Rattle.graph.specs.Flat.{Marking}
use Rattle.flattening.specs.Flattening.{flat_chart}
use Rattle.chart.specs.Reading.{reading}
use Rattle.chart.specs.ReadingGives.{Names, granted-right, reading-names, reading-fit}
use Rattle.chart.specs.Before.{apart-then}
use Rattle.chart.specs.Stored.{Plain, reading_before, then-as-before, reads-as-before, all-open}
use Rattle.chart.specs.Flat.{Reading}

-- ---- along a sequence of steps, each an event and a role: no step of event e by role r is granted, and none changes the marking
abbrev pub NeverBy : FlatChart → ℕ → ℕ → Marking → List (ℕ × ℕ) → Type 0
NeverBy c e r m [] = Unit {0}
NeverBy c e r m (s ∷ steps) =
    (s.0 ≡ e → s.1 ≡ r → ((executing c m e r).answer.code ≡ 0 → ⊥) × ((executing c m e r).marking ≡ m))
    × NeverBy c e r (executing c m s.0 s.1).marking steps

module _ (c : FlatChart) (e r : ℕ) (no : Permits (roles_of c e) r → ⊥) where
  pub not-granted : (m : Marking) → (executing c m e r).answer.code ≡ 0 → ⊥
  not-granted m g = no ((granted-enabled c m e r).0 g).0.permitted

  pub never : (m : Marking) (steps : List (ℕ × ℕ)) → NeverBy c e r m steps
  never m [] = tt
  never m (s ∷ steps) = (λ _ _. (not-granted m, refused-kept c m e r (not-granted m)), never (executing c m s.0 s.1).marking steps)

  pub told-32 : (m : Marking) → Fit c → FitMarking c.count m → e < c.count → executing c m e r ≡ refusing not_permitted 0 m
  told-32 m f t h = sym (executes-only c m e (is_forbidden (record { chart = f; marking = t; exists = h }) no))

-- ---- the buyer's sentence, through the bytes

pub record Buyer (image : List ℕ) (e r : ℕ) : Type 0 where
  -- from no marking, along no sequence of steps, is e executed by r
  pub never : (m : Marking) (steps : List (ℕ × ℕ)) → NeverBy (reading image).chart e r m steps
  -- and where the marking is fit it is told 32
  pub told : (m : Marking) → FitMarking (reading image).chart.count m → executing (reading image).chart m e r ≡ refusing not_permitted 0 m

-- if an accepted chart's event names roles and r is not among them
pub buyer : (image : List ℕ) → (reading image).answer.code ≡ 0 → (e s r : ℕ) → Names image e s → (Names image e r → ⊥) → Buyer image e r
unfolding flat_chart
buyer image ok e s r named other =
    record {
      never = never (reading image).chart e r no;
      told = λ m t. told-32 (reading image).chart e r no m fits.0 t there;
    }
  where
    fits : Fit (reading image).chart × FitMarking (reading image).chart.count (reading image).marking
    fits = reading-fit image ok

    there : e < (reading image).chart.count
    there = rw (ap (λ (x : Reading). x.chart.count) (granted-right image ok).1) named.event

    room : e < max_events
    room = let l = there in let f = fits.0.few in omega arith

    no : Permits (roles_of (reading image).chart e) r → ⊥
    no p =
        ⊎_elim
        (λ z. contra ((reading-names image ok e s room).1 named) (ap (λ (x : ℕ). has x s) z ∙ has-empty s))
        (λ i. other ((reading-names image ok e r room).0 i)) p.open-or-named

-- of an accepted chart's event: permitted are the roles of its whole chain, and every one of 0 to 7 where that names none
pub permitted-so : (image : List ℕ) → (reading image).answer.code ≡ 0 → (e r : ℕ) → e < max_events
    → Permits (roles_of (reading image).chart e) r ↔ ((r < max_roles) × (((s : ℕ) → Names image e s → ⊥) ⊎ Names image e r))
permitted-so image ok e r h = (
  λ p. (
    p.known,
    ⊎_elim (λ z. inl (λ s n. contra ((reading-names image ok e s h).1 n) (ap (λ (x : ℕ). has x s) z ∙ has-empty s)))
        (λ i. inr ((reading-names image ok e r h).0 i)) p.open-or-named,
  ),
  λ t. record {
    known = t.0;
    open-or-named = ⊎_elim (λ n. inl (none-zero _ (λ s. not_so (λ i. n s ((reading-names image ok e s h).0 i))))) (λ n. inr ((reading-names image ok e r h).1 n)) t.1;
  },
)

-- ---- charts stored before

-- what a step was before it named a role, in the words of then, which had no sets, by the limits of now (request xiv)
unfoldable pub fit_before : FlatChart → Marking → Bool
fit_before c m =
    fit_marking c.count m
    && (leb 1 c.count && leb c.count max_events
    && eqb (spill_of_then c.count c.conditions c.responses c.milestones c.includes c.excludes max_events) 0)

unfoldable pub executing_before : FlatChart → Marking → ℕ → StepThen
executing_before c m e =
    cond (not (fit_before c m)) (refusing_then unfit 0 m)
    (cond (leb c.count e) (refusing_then no_such_event 0 m)
    (stepping_then m e (row_of c e)))

module _ (c : FlatChart) (plain : c.roles ≡ replicate max_events 0) (apart : Apart c) where
  unnamed : (n k : ℕ) → roles_from c.roles n k ≡ 0
  unfolding roles_from
  unnamed n zero = refl
  unnamed n (suc k) = rw (unnamed n k, plain, zeros-at max_events (n + k)) (none-zero _ (λ f. has-union 0 0 f ∙ rw (has-empty f)))

  fits-as-before : (m : Marking) → fit c m ≡ fit_before c m
  unfolding fit_then fit_chart_then fit_tables_then fit_before
  fits-as-before m = fit-as-then c apart m ∙ rw (eq-eqb _ 0 (unnamed c.count (max_events - c.count)), and-true)

  -- "every step by any role 0 to 7 is what it was"
  pub steps-as-before : (m : Marking) (e r : ℕ) → r < max_roles → left_out (executing c m e r) ≡ executing_before c m e
  unfolding executing_then stepping_by_then executing_before
  steps-as-before m e r h =
      let z : roles_of c e ≡ 0 = ap (λ (l : List ℕ). get_or l e 0) plain ∙ zeros-at max_events e in
      step-as-then c m e r
      ∙ rw (fits-as-before m, (permits-so (roles_of c e) r).1 (record { known = h; open-or-named = inl z }))

-- of a chart whose nodes have no upper bits, and that was not refused with 9: the reading is the one of then, and so is every step by a role 0 to 7
pub record StoredChart (image : List ℕ) : Type 0 where
  pub reads : reading image ≡ reading_before image
  pub unnamed : (reading image).chart.roles ≡ replicate max_events 0
  pub steps : (m : Marking) (e r : ℕ) → r < max_roles → left_out (executing (reading image).chart m e r) ≡ executing_before (reading image).chart m e

pub stored : (image : List ℕ) → Plain image → ((reading_before image).answer.code ≡ include_exclude → ⊥) → StoredChart image
stored image p n =
    record {
      reads = reads-as-before image p n;
      unnamed = all-open image p;
      steps = steps-as-before (reading image).chart (all-open image p) (apart-then image (rw (then-as-before image p) n));
    }
