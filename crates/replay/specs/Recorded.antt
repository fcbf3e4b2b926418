-- Request (vii): the record of a purchase, and how far it is allowed. Assumes nothing.
use Rattle.std.specs.Prelude.{ℕ, suc, ◌+◌, ◌<◌, ◌≡◌, true, cond, length, eqb}
use Rattle.std.proofs.Math.Path.{refl}
use Rattle.std.proofs.Common.{sym, ◌∙◌, arith, suc-add, add-zero, length-append, eq-eqb, ne_eqb, eqb-true}
use mathlib.Core.List.{List, [], ◌∷◌, ◌++◌}
use Rattle.std.proofs.Math.Nat.{zero-add}
use Rattle.std.proofs.lemmas.Bool.{eqb-false}
use Rattle.general.specs.Cases.{cases}
use Rattle.graph.specs.Fitness.{fit}
use Rattle.graph.specs.Fitness.{fit-both, both-fit}
use Rattle.graph.specs.Steps.{granting, executing}
use Rattle.graph.specs.Execution.{is_done, executes-only, after-executed, granted-enabled, refused-kept, step-fit}
use Rattle.flat_chart.specs.Flat.{FlatChart}
use Rattle.graph.specs.Flat.{Marking, Step}

-- "Its record is a list of (event, role) pairs from the chart's start marking."
pub record Entry : Type 0 where
  pub event : ℕ
  pub role : ℕ

-- the record in the 32-bit numbers that a call is lent: event and role in turn. An odd last number is no step
unfoldable pub record_of : List ℕ → List Entry
record_of [] = []
record_of (e ∷ []) = []
record_of (e ∷ r ∷ rest) = record { event = e; role = r } ∷ record_of rest

-- what executing a step of the record gives
abbrev pub taking : FlatChart → Marking → Entry → Step
taking c m x = executing c m x.event x.role

-- ---- "The replay says how far the record is allowed, the marking there, the first step that isn't allowed with its code (the record's length and 0 if all are)"

-- every step is granted from the marking that the ones before it gave, and the last gives n
pub data Allowed (c : FlatChart) : Marking → List Entry → Marking → Type 0 where
  none : {m : Marking} → Allowed c m [] m
  then : {m k n : Marking} {x : Entry} {rest : List Entry} → taking c m x ≡ granting k → Allowed c k rest n → Allowed c m (x ∷ rest) n

-- how many steps are allowed, and what the first that is not allowed gives: its code and, since a refused step hands it back, the marking there. Where all are
-- allowed there is no such step, and their marking stands beside code 0
pub data HowFar (c : FlatChart) (m : Marking) : List Entry → ℕ → Step → Type 0 where
  whole : {l : List Entry} {n : Marking} → Allowed c m l n → HowFar c m l (length l) (granting n)
  until : {l : List Entry} {n : Marking} → Allowed c m l n → (x : Entry) (rest : List Entry) → ((taking c n x).answer.code ≡ 0 → ⊥) → HowFar c m (l ++ x ∷ rest) (length l) (taking c n x)

-- the same as a function
pub record Reached : Type 0 where
  pub steps : ℕ
  pub stop : Step

abbrev pub reached : ℕ → Step → Reached
reached k s = record { steps = k; stop = s }

unfoldable pub reaching : FlatChart → Marking → List Entry → Reached
reaching c m [] = reached 0 (granting m)
reaching c m (x ∷ rest) =
    let r = reaching c (taking c m x).marking rest in
    cond (eqb (taking c m x).answer.code 0) (reached (suc r.steps) r.stop) (reached 0 (taking c m x))

-- ---- both are one

module _ (c : FlatChart) where
  -- a step with code 0 names no place
  pub granted-whole : (m : Marking) (x : Entry) → (taking c m x).answer.code ≡ 0 → taking c m x ≡ granting (taking c m x).marking
  granted-whole m x h =
      let t = (granted-enabled c m x.event x.role).0 h in
      rw (sym (executes-only c m x.event (is_done t.0 t.1 (after-executed c m x.event))))

  -- one step more, and one that is not allowed
  pub reach-then : (m : Marking) (x : Entry) (rest : List Entry) → (taking c m x).answer.code ≡ 0
      → reaching c m (x ∷ rest) ≡ reached (suc (reaching c (taking c m x).marking rest).steps) (reaching c (taking c m x).marking rest).stop
  unfolding reaching
  reach-then m x rest h = rw (eq-eqb _ 0 h)

  pub reach-until : (m : Marking) (x : Entry) (rest : List Entry) → ((taking c m x).answer.code ≡ 0 → ⊥) → reaching c m (x ∷ rest) ≡ reached 0 (taking c m x)
  unfolding reaching
  reach-until m x rest h = rw (ne_eqb _ 0 h)

  how-more : {m k : Marking} {x : Entry} {rest : List Entry} {i : ℕ} {s : Step} → taking c m x ≡ granting k → HowFar c k rest i s → HowFar c m (x ∷ rest) (suc i) s
  how-more g (whole a) = whole (then g a)
  how-more g (until a x rest h) = until (then g a) x rest h

  pub how-far : (l : List Entry) (m : Marking) → HowFar c m l (reaching c m l).steps (reaching c m l).stop
  unfolding reaching
  how-far [] m = whole none
  how-far (x ∷ rest) m =
      cases (eqb (taking c m x).answer.code 0)
      (λ h. rw h (how-more (granted-whole m x (eqb-true _ 0 h)) (how-far rest (taking c m x).marking)))
      (λ h. rw h (until none x rest (eqb-false _ 0 h)))

  far-whole : {m : Marking} {l : List Entry} {k : ℕ} {s : Step} → HowFar c m l k s → s.answer.code ≡ 0 → Allowed c m l s.marking × (k ≡ length l) × (s ≡ granting s.marking)
  far-whole (whole a) z = (a, refl, refl)
  far-whole (until a x rest h) z = absurd (h z)

  far-until : {m : Marking} {l : List Entry} {k : ℕ} {s : Step} → HowFar c m l k s → (s.answer.code ≡ 0 → ⊥) → k < length l
  far-until (whole a) n = absurd (n refl)
  far-until (until {l} a x rest h) n = omega (arith, length-append l (x ∷ rest))

  -- a record is allowed whole exactly if the replay ends with code 0; else it stops before the end
  pub reach-whole : (m : Marking) (l : List Entry) → (reaching c m l).stop.answer.code ≡ 0
      → Allowed c m l (reaching c m l).stop.marking × ((reaching c m l).steps ≡ length l) × ((reaching c m l).stop ≡ granting (reaching c m l).stop.marking)
  reach-whole m l z = far-whole (how-far l m) z

  pub reach-short : (m : Marking) (l : List Entry) → ((reaching c m l).stop.answer.code ≡ 0 → ⊥) → (reaching c m l).steps < length l
  reach-short m l n = far-until (how-far l m) n

  -- what follows a step that is not allowed changes nothing
  pub reach-stopped : (l rest : List Entry) (m : Marking) → ((reaching c m l).stop.answer.code ≡ 0 → ⊥) → reaching c m (l ++ rest) ≡ reaching c m l
  unfolding reaching
  reach-stopped [] rest m n = absurd (n refl)
  reach-stopped (x ∷ l) rest m n = cases (eqb (taking c m x).answer.code 0) (λ h. rw (h, reach-stopped l rest (taking c m x).marking (rw h at n))) (λ h. rw h)

  -- steps that are granted one after the other are allowed whole, whatever follows them, and end in their marking
  pub reach-append : {m n : Marking} {l : List Entry} (rest : List Entry) → Allowed c m l n
      → reaching c m (l ++ rest) ≡ reached (length l + (reaching c n rest).steps) (reaching c n rest).stop
  unfolding reaching
  reach-append rest none = rw zero-add
  reach-append rest (then g a) = rw (g, reach-append rest a, suc-add)

  pub allowed-reached : {m n : Marking} {l : List Entry} → Allowed c m l n → reaching c m l ≡ reached (length l) (granting n)
  unfolding reaching
  allowed-reached none = refl
  allowed-reached (then g a) = rw (g, allowed-reached a)

  -- nothing else is how far the record is allowed
  pub how-far-only : {m : Marking} {l : List Entry} {k : ℕ} {s : Step} → HowFar c m l k s → reached k s ≡ reaching c m l
  how-far-only (whole a) = sym (allowed-reached a)
  how-far-only (until {l} {n} a x rest h) = sym (reach-append (x ∷ rest) a ∙ rw (reach-until n x rest h, add-zero))

  -- a record grows by a granted step
  pub allowed-more : {m k n : Marking} {l : List Entry} → Allowed c m l k → (x : Entry) → taking c k x ≡ granting n → Allowed c m (l ++ x ∷ []) n
  allowed-more none x h = then h none
  allowed-more (then g a) x h = then g (allowed-more a x h)

  -- the marking there is fit, as the start marking was
  pub reach-fit : (l : List Entry) (m : Marking) → fit c m ≡ true → fit c (reaching c m l).stop.marking ≡ true
  unfolding reaching
  reach-fit [] m f = f
  reach-fit (x ∷ rest) m f =
      cases (eqb (taking c m x).answer.code 0)
      (λ h. rw h (reach-fit rest (taking c m x).marking (both-fit c _ (fit-both c m f).0 (step-fit c m x.event x.role (eqb-true _ 0 h)))))
      (λ h. rw (h, refused-kept c m x.event x.role (eqb-false _ 0 h)) f)
