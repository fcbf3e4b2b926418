-- What request (vii) has replay and strike give, case by case, that the calls give this and nothing else, and what follows of a granted strike. Assumes nothing.
use Rattle.std.specs.Prelude.{ℕ, ◌≤◌, ◌<◌, ◌≡◌, refl, List, ◌∷◌, ◌++◌, ◌↔◌, length, get_or, eqb, leb}
use Rattle.std.proofs.Common.{sym, ◌∙◌, inl, inr, ⊎_elim, arith, add-zero, get_or-append-add}
use Rattle.std.proofs.Math.Path.{ap}
use borrow.Author.Tests.{eqb-true, eqb-false, eq-eqb, ne_eqb, leb-true, leb-false, le-leb, lt-leb}
use Rattle.paper.specs.Limits.{unfit, no_such_position}
use Rattle.paper.specs.Answers.{granted, place_of}
use Rattle.general.specs.Cases.{contra, cases, coincide}
use Rattle.general.specs.Refusals.{Refusals, when, unless, otherwise, first_row, Told, first-told, told-only, not-held}
use Rattle.flat_chart.specs.Chart.{Fit}
use Rattle.graph.specs.Fitness.{FitMarking, fit}
use Rattle.graph.specs.Fitness.{fit-both, both-fit}
use Rattle.graph.specs.Steps.{finishing}
use Rattle.graph.specs.Execution.{BothSets, refused-kept}
use Rattle.graph.specs.Opening.{Blocks}
use Rattle.graph.specs.HandedOn.{step-exact, step-others-empty}
use Rattle.flat_chart.specs.Flat.{FlatChart}
use Rattle.graph.specs.Flat.{Marking, Step}
use Rattle.replay.specs.Recorded.{Entry, record_of, Allowed, HowFar, whole, until, Reached, reached, reaching, how-far, how-far-only, reach-whole, allowed-reached}
use Rattle.replay.specs.Replaying.{told, untold, replaying, without, old_position, not_struck, stopped_by, struck, struck_by, striking}
use Rattle.replay.specs.Flat.{Replayed, Struck}

-- ---- the rows

-- "Refusals: 14": else the replay is told, and "A replay that stops at a step is no refused call and keeps the marking reached"
pub data Replays (c : FlatChart) (m : Marking) (numbers : List ℕ) : Replayed → Type 0 where
  is_unfit : (Fit c → FitMarking c.count m → ⊥) → Replays c m numbers (untold m)
  is_told : {k : ℕ} {s : Step} → Fit c → FitMarking c.count m → HowFar c m (record_of numbers) k s → Replays c m numbers (told c (reached k s))

-- the chart and the marking are fit, and the position is one of the record
pub record Within (c : FlatChart) (m : Marking) (numbers : List ℕ) (p : ℕ) : Type 0 where
  pub chart : Fit c
  pub marking : FitMarking c.count m
  pub inside : p < length (record_of numbers)

-- "Refusals: 14, then 36, position outside the record, both before any step." "The strike is granted exactly if all remaining steps are allowed in their order, and then
-- the marking is the one the shortened record gives; else the first step that fails is named by its code and old position and the start marking comes back."
pub data Strikes (c : FlatChart) (m : Marking) (numbers : List ℕ) (p : ℕ) : Struck → Type 0 where
  is_unfit : (Fit c → FitMarking c.count m → ⊥) → Strikes c m numbers p (not_struck unfit 0 m)
  is_outside : Fit c → FitMarking c.count m → length (record_of numbers) ≤ p → Strikes c m numbers p (not_struck no_such_position 0 m)
  is_struck : {n : Marking} → Within c m numbers p → Allowed c m (without p (record_of numbers)) n → Strikes c m numbers p (struck n)
  is_stopped : {k : ℕ} {s : Step} → Within c m numbers p → HowFar c m (without p (record_of numbers)) k s → (s.answer.code ≡ 0 → ⊥)
      → Strikes c m numbers p (stopped_by s (place_of (old_position p k)) m)

-- ---- one row holds, and no other

module _ (c : FlatChart) (m : Marking) (numbers : List ℕ) where
  unfoldable replay_rows : Refusals (Replays c m numbers) (Unit {0})
  replay_rows =
      unless (fit c m) (untold m) (λ _ h. is_unfit (λ f t. contra (both-fit c m f t) h)) (λ k. fit-both c m k.1, λ k. (tt, both-fit c m k.0 k.1))
      (otherwise (told c (reaching c m (record_of numbers))) (λ k. is_told k.0 k.1 (how-far c (record_of numbers) m)))

  pub replays : Replays c m numbers (replaying c m numbers)
  unfolding replaying replay_rows first_row
  replays = first-told replay_rows tt

  pub replays-only : {r : Replayed} → Replays c m numbers r → r ≡ replaying c m numbers
  unfolding replaying replay_rows first_row Told
  replays-only (is_unfit n) = told-only replay_rows (inl (tt, not-held (λ ok. let t = fit-both c m ok in n t.0 t.1), refl))
  replays-only (is_told f t h) = told-only replay_rows (inr ((f, t), ap (told c) (how-far-only c h)))

  pub replay-determined : (r s : Replayed) → r ≡ replaying c m numbers → s ≡ replaying c m numbers → r ≡ s
  replay-determined r s = coincide

module _ (c : FlatChart) (m : Marking) (numbers : List ℕ) (p : ℕ) where
  unfoldable strike_rows : Refusals (Strikes c m numbers p) (Unit {0})
  unfolding struck_by
  strike_rows =
      let r : Reached = reaching c m (without p (record_of numbers)) in
      unless (fit c m) (not_struck unfit 0 m) (λ _ h. is_unfit (λ f t. contra (both-fit c m f t) h)) (λ k. fit-both c m k.1, λ k. (tt, both-fit c m k.0 k.1))
      (when {N = Within c m numbers p} (leb (length (record_of numbers)) p) (not_struck no_such_position 0 m) (λ k h. is_outside k.0 k.1 (leb-true _ _ h))
      (λ k. record { chart = k.0.0; marking = k.0.1; inside = leb-false _ _ k.1 }, λ k. ((k.chart, k.marking), lt-leb _ _ k.inside))
      (when (eqb r.stop.answer.code 0) (struck r.stop.marking) (λ k h. is_struck k (reach-whole c m (without p (record_of numbers)) (eqb-true _ 0 h)).0)
      (λ k. k, λ k. k)
      (otherwise (stopped_by r.stop (place_of (old_position p r.steps)) m) (λ k. is_stopped k.0 (how-far c (without p (record_of numbers)) m) (eqb-false _ 0 k.1)))))

  pub strikes : Strikes c m numbers p (striking c m numbers p)
  unfolding striking struck_by strike_rows first_row
  strikes = first-told strike_rows tt

  pub strikes-only : {s : Struck} → Strikes c m numbers p s → s ≡ striking c m numbers p
  unfolding striking struck_by strike_rows first_row Told
  strikes-only (is_unfit n) = told-only strike_rows (inl (tt, not-held (λ ok. let t = fit-both c m ok in n t.0 t.1), refl))
  strikes-only (is_outside f t h) = told-only strike_rows (inr (inl ((f, t), le-leb _ _ h, refl)))
  strikes-only (is_struck w a) =
      let e = allowed-reached c a in
      told-only strike_rows (inr (inr (inl (w, eq-eqb _ 0 (ap (λ (r : Reached). r.stop.answer.code) e), ap (λ (r : Reached). struck r.stop.marking) (sym e)))))
  strikes-only (is_stopped w h n) =
      let e = how-far-only c h in
      let q : (reaching c m (without p (record_of numbers))).stop.answer.code ≡ 0 → ⊥ = λ z. n (ap (λ (r : Reached). r.stop.answer.code) e ∙ z) in
      told-only strike_rows (inr (inr (inr ((w, ne_eqb _ 0 q), ap (λ (r : Reached). stopped_by r.stop (place_of (old_position p r.steps)) m) e))))

  pub strike-determined : (s t : Struck) → s ≡ striking c m numbers p → t ≡ striking c m numbers p → s ≡ t
  strike-determined s t = coincide

-- ---- "demand 1 reads for 14, 36 and a strike that isn't granted": what is refused hands back the marking that it was given

pub replay-kept : (c : FlatChart) (m : Marking) (numbers : List ℕ) → ((replaying c m numbers).answer.code ≡ 0 → ⊥) → replaying c m numbers ≡ untold m
replay-kept c m numbers n = go (replays c m numbers) n
  where
    go : {r : Replayed} → Replays c m numbers r → (r.answer.code ≡ 0 → ⊥) → r ≡ untold m
    go (is_unfit _) n = refl
    go (is_told _ _ _) n = absurd (n refl)

pub strike-kept : (c : FlatChart) (m : Marking) (numbers : List ℕ) (p : ℕ) → ((striking c m numbers p).answer.code ≡ 0 → ⊥) → (striking c m numbers p).marking ≡ m
strike-kept c m numbers p n = go (strikes c m numbers p) n
  where
    go : {s : Struck} → Strikes c m numbers p s → (s.answer.code ≡ 0 → ⊥) → s.marking ≡ m
    go (is_unfit _) n = refl
    go (is_outside _ _ _) n = refl
    go (is_struck _ _) n = absurd (n refl)
    go (is_stopped _ _ _) n = refl

-- ---- request (viii), "The replay carries the sets too"

module _ (c : FlatChart) where
  far-blocked : {m : Marking} {l : List Entry} {k : ℕ} {s : Step} → HowFar c m l k s → Blocks s.answer.code
      → (d : Entry) → BothSets c s.marking (get_or l k d).event s.conditions s.milestones
  far-blocked (whole a) b d = ⊎_elim (λ h. absurd (omega arith)) (λ h. absurd (omega arith)) b
  far-blocked (until {l} {n} a x rest h) b d =
      let q : get_or (l ++ x ∷ rest) (length l) d ≡ x = rw add-zero at (get_or-append-add l (x ∷ rest) 0 d) in
      rw (q, refused-kept c n x.event x.role h) (step-exact c n x.event x.role b)

  far-others : {m : Marking} {l : List Entry} {k : ℕ} {s : Step} → HowFar c m l k s → (Blocks s.answer.code → ⊥) → (s.conditions ≡ 0) × (s.milestones ≡ 0)
  far-others (whole a) n = (refl, refl)
  far-others (until {l} {n} a x rest h) o = step-others-empty c n x.event x.role o

module _ (c : FlatChart) (m : Marking) (numbers : List ℕ) where
  -- with 12 and 13 they are all that holds back the event of the next step in the marking there
  pub replay-blocked : Blocks (replaying c m numbers).code → (d : Entry)
      → BothSets c (replaying c m numbers).marking (get_or (record_of numbers) (replaying c m numbers).steps d).event
      (replaying c m numbers).conditions (replaying c m numbers).milestones
  replay-blocked = go (replays c m numbers)
    where
      go : {r : Replayed} → Replays c m numbers r → Blocks r.code → (d : Entry)
          → BothSets c r.marking (get_or (record_of numbers) r.steps d).event r.conditions r.milestones
      go (is_unfit _) b d = ⊎_elim (λ h. absurd (omega arith)) (λ h. absurd (omega arith)) b
      go (is_told _ _ h) b d = far-blocked c h b d

  pub replay-others : (Blocks (replaying c m numbers).code → ⊥) → ((replaying c m numbers).conditions ≡ 0) × ((replaying c m numbers).milestones ≡ 0)
  replay-others = go (replays c m numbers)
    where
      go : {r : Replayed} → Replays c m numbers r → (Blocks r.code → ⊥) → (r.conditions ≡ 0) × (r.milestones ≡ 0)
      go (is_unfit _) n = (refl, refl)
      go (is_told _ _ h) n = far-others c h n

-- ---- a record that granted steps made is allowed whole, and ends in their marking

-- "(the record's length and 0 if all are)"
abbrev pub all_with : FlatChart → List ℕ → Marking → Replayed
all_with c numbers n =
    record { answer = granted; code = 0; steps = length (record_of numbers); marking = n; finished = (finishing c n).yes; conditions = 0; milestones = 0 }

module _ (c : FlatChart) (m : Marking) where
  pub replay-allowed : (numbers : List ℕ) {n : Marking} → Fit c → FitMarking c.count m → Allowed c m (record_of numbers) n → replaying c m numbers ≡ all_with c numbers n
  replay-allowed numbers f t a = sym (replays-only c m numbers (is_told f t (HowFar.whole a)))

  -- and a replay with code 0 is that of such a record
  pub replay-whole : (numbers : List ℕ) → (replaying c m numbers).answer.code ≡ 0 → (replaying c m numbers).code ≡ 0 → Allowed c m (record_of numbers) (replaying c m numbers).marking
  unfolding replaying
  replay-whole numbers g z =
      cases (fit c m) (λ f. rw f (reach-whole c m (record_of numbers) (rw f at z)).0) (λ f. absurd (let x = rw f at g in omega arith))

-- ---- a strike is granted exactly if the replay of the shortened record is allowed whole, with the same marking

module _ (c : FlatChart) (m : Marking) (numbers shorter : List ℕ) (p : ℕ) (within : p < length (record_of numbers)) (same : record_of shorter ≡ without p (record_of numbers)) where
  struck-whole : {s : Struck} → Strikes c m numbers p s → s.answer.code ≡ 0 → Fit c × FitMarking c.count m × Allowed c m (without p (record_of numbers)) s.marking
  struck-whole (is_unfit _) z = absurd (omega arith)
  struck-whole (is_outside _ _ _) z = absurd (omega arith)
  struck-whole (is_struck w a) z = (w.chart, w.marking, a)
  struck-whole (is_stopped _ _ n) z = absurd (n z)

  replay-fit : {r : Replayed} → Replays c m shorter r → r.answer.code ≡ 0 → Fit c × FitMarking c.count m
  replay-fit (is_unfit _) z = absurd (omega arith)
  replay-fit (is_told f t _) z = (f, t)

  shorter-replay : (striking c m numbers p).answer.code ≡ 0 → replaying c m shorter ≡ all_with c shorter (striking c m numbers p).marking
  shorter-replay z = let (f, t, a) = struck-whole (strikes c m numbers p) z in replay-allowed c m shorter f t (rw same a)

  pub strike-replay : ((striking c m numbers p).answer.code ≡ 0) ↔ (((replaying c m shorter).answer.code ≡ 0) × ((replaying c m shorter).code ≡ 0))
  strike-replay = (
    λ z. rw (shorter-replay z) (refl, refl),
    λ k. let (f, t) = replay-fit (replays c m shorter) k.0 in
        ap (λ (s : Struck). s.answer.code)
        (sym (strikes-only c m numbers p (is_struck (record { chart = f; marking = t; inside = within }) (rw same at (replay-whole c m shorter k.0 k.1))))),
  )

  pub strike-marking : (striking c m numbers p).answer.code ≡ 0 → (striking c m numbers p).marking ≡ (replaying c m shorter).marking
  strike-marking z = sym (ap (λ (r : Replayed). r.marking) (shorter-replay z))

  -- the sets of a strike are those of that replay
  pub strike-sets : ((striking c m numbers p).conditions ≡ (replaying c m shorter).conditions) × ((striking c m numbers p).milestones ≡ (replaying c m shorter).milestones)
  unfolding striking struck_by replaying
  strike-sets =
      cases (fit c m)
      (λ f. cases (eqb (reaching c m (without p (record_of numbers))).stop.answer.code 0)
      (λ z. rw (f, same, lt-leb _ _ within, z, (reach-whole c m (without p (record_of numbers)) (eqb-true _ 0 z)).2) (refl, refl))
      (λ z. rw (f, same, lt-leb _ _ within, z) (refl, refl)))
      (λ f. rw f (refl, refl))
