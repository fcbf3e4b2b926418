-- What each run of rules leaves behind, written or only counted, in the form in which the code meets it. Assumes nothing.
use Prim.Native.Nat.{ℕ, ◌+◌, ◌*◌, ◌≤◌, ◌<◌}
use mathlib.Core.Path.{◌≡◌, refl, sym, ◌∙◌}
use mathlib.Core.Bool.{Bool, true, not}
use mathlib.Core.List.{List, [], ◌∷◌, ◌++◌, append-nil}
use native.Mathlib.Omega.{arith}
use lib.ListN.{length, get_or, length-append}
use borrow.Author.Tests.{eq-eqb, ne_eqb, eqb-true}
use Rattle.paper.specs.Limits.{rule_size}
use Rattle.sets.specs.Set.{has, union, inter, minus, only, size, within}
use Rattle.sets.specs.Laws.{has-inter, has-only, within-lt, lt-within, has-minus}
use Rattle.wire.specs.Wire.{bytes16}
use Rattle.general.specs.Cases.{both}
use Rattle.general.specs.Below.{tally-le, tally-step}
use Rattle.general.specs.Lists.{flat, packed, packed-append, length-packed}
use Rattle.general.specs.Writing.{Fits, Wrote, Ran, ran-wrote, ran-short, ran_then}
use Rattle.book.specs.ImageOf.{rule_record, rule_bytes, length-rule}
use Rattle.derived.specs.Derived.{on, listed}
use Rattle.derived.specs.Members.{size-within, length-listed}
use Rattle.derived.specs.Parts.{CompletionsIn}
use Rattle.derived.specs.RuleBytes.{fits_one}
use Rattle.flat_chart.specs.Flat.{FlatChart, Row}
use Rattle.flat_chart.specs.Chart.{row_of}
use Rattle.smaller.specs.Runs.{max_book, Under, effect_by, effects_by, completion_by, completions_by, text_left, condition_by, stage_by}
use Rattle.smaller.specs.Keeping.{Keeping, completion_kept, completions_kept}

-- ---- one record: 10 bytes, written where the room reaches behind them

length-record : (k s v m c t : ℕ) → length (rule_record k s v m c t) ≡ 10
unfolding rule_record bytes16
length-record k s v m c t = refl

pub free-ran : {room after : List ℕ} (at p s v c t : ℕ) → Wrote room at (rule_record 0 s v 0 c t) p after → Ran room at (rule_record 0 s v 0 c t) (at + 10) after
free-ran at p s v c t w = let q : at + 10 ≡ p = rw (w.place, length-record 0 s v 0 c t) in rw q (ran-wrote w)

pub free-short : (room : List ℕ) (at s v c t : ℕ) → length room < at + 10 → Ran room at (rule_record 0 s v 0 c t) (at + 10) room
free-short room at s v c t h = ran-short (rw (length-record 0 s v 0 c t)) h

-- ---- a run of effects: 10 bytes for each member of the set, written where the room reaches behind them all

module _ (t : List ℕ) (e raise base : ℕ) where
  pub effect-fits : (room : List ℕ) (at f : ℕ) → Fits room at (packed rule_bytes (effect_by t e raise base f)) → at + 10 ≤ length room
  unfolding effect_by
  effect-fits room at f h = fits_one room at (on e (has raise f) (get_or t (base + f) 0)) h

  pub effect-wrote : {room after : List ℕ} (at next f m : ℕ) (b : Bool) → b ≡ has raise f → m ≡ get_or t (base + f) 0
      → Wrote room at (packed rule_bytes (on e b m ∷ [])) next after → Wrote room at (packed rule_bytes (effect_by t e raise base f)) next after
  unfolding effect_by
  effect-wrote at next f m b p q w = rw (p, q) at w

  module _ (n among k : ℕ) (inside : within n among ≡ true) (many : k ≡ size among) where
    abbrev run : List ℕ
    run = packed rule_bytes (effects_by t n e raise among base)

    effects-length : length run ≡ 10 * k
    unfolding effect_by effects_by
    effects-length =
        length-packed rule_bytes rule_size length-rule (effects_by t n e raise among base)
        ∙ rw (length-listed (effect_by t e raise base) 1 n among (λ f. refl), many, size-within n among inside) (omega arith)

    pub effects-under : (at : ℕ) → Under at run → at + 10 * k ≤ max_book
    effects-under at u = let l : length run ≡ 10 * k = effects-length in omega arith

    pub effects-short : (room : List ℕ) (at : ℕ) → length room < at + 10 * k → Ran room at run (at + 10 * k) room
    effects-short room at h = ran-short (rw effects-length) h

    pub effects-fit : (room : List ℕ) (at : ℕ) → at + 10 * k ≤ length room → Fits room at (packed rule_bytes (flat n (listed (effect_by t e raise base) among)))
    unfolding effects_by
    effects-fit room at h = let l : length run ≡ 10 * k = effects-length in omega arith

  pub effects-wrote : {room after : List ℕ} (n among at next : ℕ) → Wrote room at (packed rule_bytes (flat n (listed (effect_by t e raise base) among))) next after
      → Ran room at (packed rule_bytes (effects_by t n e raise among base)) next after
  unfolding effects_by
  effects-wrote n among at next w = ran-wrote w

-- ---- sets that keep to the n events

inter-within : (n a b : ℕ) → within n a ≡ true → within n (inter a b) ≡ true
inter-within n a b h = lt-within n (inter a b) (λ f m. within-lt n a f h (both (has a f) (has b f) (sym (has-inter a b f) ∙ m)).0)

minus-within : (n a b : ℕ) → within n a ≡ true → within n (minus a b) ≡ true
minus-within n a b h = lt-within n (minus a b) (λ f m. within-lt n a f h (both (has a f) (not (has b f)) (sym (has-minus a b f) ∙ m)).0)

only-within : (n e : ℕ) → e < n → within n (only e) ≡ true
only-within n e h = lt-within n (only e) (λ f m. let q : e ≡ f = eqb-true e f (sym (has-only e f) ∙ m) in omega arith)

-- the sets that the code makes for a completion: e itself; what it includes and excludes, its answer and its execution, as far as their marks stay; and the empty set
pub record Sets (e E I A i x r o k a d z : ℕ) : Type 0 where
  pub own : o ≡ only e
  pub changed : k ≡ inter (union i x) I
  pub answers : a ≡ inter (minus (only e) r) A
  pub done : d ≡ inter (only e) E
  pub none : z ≡ 0

pub sets-made : {e E I A i x r o u k m a d z : ℕ} → o ≡ only e → u ≡ union i x → k ≡ inter u I → m ≡ minus o r → a ≡ inter m A → d ≡ inter o E → z ≡ 0
    → Sets e E I A i x r o k a d z
sets-made o u k m a d z = record { own = o; changed = k ∙ rw u; answers = a ∙ rw (m, o); done = d ∙ rw o; none = z }

module _ (n : ℕ) {e E I A i x r o k a d z : ℕ} (s : Sets e E I A i x r o k a d z) where
  pub changed-within : within n (union i x) ≡ true → within n k ≡ true
  changed-within h = rw s.changed (inter-within n (union i x) I h)

  pub answers-within : e < n → within n a ≡ true
  answers-within h = rw s.answers (inter-within n (minus (only e) r) A (minus-within n (only e) r (only-within n e h)))

  pub done-within : e < n → within n d ≡ true
  done-within h = rw s.done (inter-within n (only e) E (only-within n e h))

-- ---- one run, and then another

under_first : (at : ℕ) (a b : List ℕ) → Under at (a ++ b) → Under at a
under_first at a b u = let n : length (a ++ b) ≡ length a + length b = length-append a b in omega arith

under-then : {room a after : List ℕ} {at next : ℕ} → Ran room at a next after → (b : List ℕ) → Under at (a ++ b) → Under next b
under-then {a} {at} {next} w b u =
    let n : length (a ++ b) ≡ length a + length b = length-append a b in
    let p : next ≡ at + length a = w.place in
    omega arith

-- ---- everything on one completion: four runs

module _ (t : List ℕ) (n : ℕ) {e E I A i x r o k a d z : ℕ} (s : Sets e E I A i x r o k a d z) (room : List ℕ) (at : ℕ) where
  abbrev included : List ℕ
  included = packed rule_bytes (effects_by t n e i k (2 * n))

  abbrev responded : List ℕ
  responded = packed rule_bytes (effects_by t n e z r (3 * n))

  abbrev answered : List ℕ
  answered = packed rule_bytes (effects_by t n e o a (3 * n))

  abbrev executed : List ℕ
  executed = packed rule_bytes (effects_by t n e o d n)

  abbrev whole : List ℕ
  whole = packed rule_bytes (completion_by t n E I A e i x r)

  all : whole ≡ included ++ (responded ++ (answered ++ executed))
  unfolding completion_by
  all =
      rw (
        s.own,
        s.changed,
        s.answers,
        s.done,
        s.none,
        packed-append rule_bytes (effects_by t n e i (inter (union i x) I) (2 * n)),
        packed-append rule_bytes (effects_by t n e 0 r (3 * n)),
        packed-append rule_bytes (effects_by t n e (only e) (inter (minus (only e) r) A) (3 * n)),
      )

  module _ (under : Under at whole) where
    under_all : Under at (included ++ (responded ++ (answered ++ executed)))
    under_all = rw all at under

    pub completion-under-1 : Under at included
    completion-under-1 = under_first at included _ under_all

    module _ {p₁ : ℕ} {r₁ : List ℕ} (w₁ : Ran room at included p₁ r₁) where
      pub completion-under-2 : Under p₁ responded
      completion-under-2 = under_first p₁ responded _ (under-then w₁ _ under_all)

      module _ {p₂ : ℕ} {r₂ : List ℕ} (w₂ : Ran r₁ p₁ responded p₂ r₂) where
        pub completion-under-3 : Under p₂ answered
        completion-under-3 = under_first p₂ answered executed (under-then w₂ _ (under-then w₁ _ under_all))

        module _ {p₃ : ℕ} {r₃ : List ℕ} (w₃ : Ran r₂ p₂ answered p₃ r₃) where
          pub completion-under-4 : Under p₃ executed
          completion-under-4 = under-then w₃ _ (under-then w₂ _ (under-then w₁ _ under_all))

          pub completion-ran : {p₄ : ℕ} {r₄ : List ℕ} → Ran r₃ p₃ executed p₄ r₄ → Ran room at whole p₄ r₄
          completion-ran w₄ = rw all (ran_then w₁ (ran_then w₂ (ran_then w₃ w₄)))

-- by the row of e in a chart

module _ (c : FlatChart) (e : ℕ) {r : Row} (p : r ≡ row_of c e) where
  pub row-within : {n : ℕ} → CompletionsIn n c.includes c.excludes c.responses → e < n → (within n (union r.includes r.excludes) ≡ true) × (within n r.responses ≡ true)
  row-within k h = rw p (k.inclusions e h, k.responses e h)

  module _ (k : Keeping) where
    row_same : completions_kept k c e ≡ completion_kept k e r
    unfolding completions_by
    row_same = rw p

    pub row-under : (at : ℕ) → Under at (packed rule_bytes (completions_kept k c e)) → Under at (packed rule_bytes (completion_kept k e r))
    row-under at u = rw row_same at u

    pub row-ran : {room after : List ℕ} {at next : ℕ} → Ran room at (packed rule_bytes (completion_kept k e r)) next after
        → Ran room at (packed rule_bytes (completions_kept k c e)) next after
    row-ran w = rw row_same w

-- ---- the rules of a stage, where z has the texts' sizes

module _ (z : List ℕ) (e at : ℕ) where
  module _ (none : get_or z e 0 ≡ 0) where
    bare-bytes : packed rule_bytes (stage_by z e) ≡ rule_record 0 0 1 0 0 e
    unfolding stage_by packed rule_bytes
    bare-bytes = rw (eq-eqb (get_or z e 0) 0 none) (append-nil _)

    pub bare-under : Under at (packed rule_bytes (stage_by z e)) → Under at (rule_record 0 0 1 0 0 e)
    bare-under u = rw bare-bytes at u

    pub bare-ran : {room after : List ℕ} (next : ℕ) → Ran room at (rule_record 0 0 1 0 0 e) next after → Ran room at (packed rule_bytes (stage_by z e)) next after
    bare-ran next w = rw bare-bytes w

  module _ (some : get_or z e 0 ≡ 0 → ⊥) (k : ℕ) (p : k ≡ condition_by z e) where
    stage-bytes : packed rule_bytes (stage_by z e) ≡ rule_record 0 1 1 0 k e ++ rule_record 0 2 0 0 k e
    unfolding stage_by packed rule_bytes
    stage-bytes = rw (ne_eqb (get_or z e 0) 0 some, p, append-nil)

    pub stage-under-1 : Under at (packed rule_bytes (stage_by z e)) → Under at (rule_record 0 1 1 0 k e)
    stage-under-1 u = under_first at (rule_record 0 1 1 0 k e) (rule_record 0 2 0 0 k e) (rw stage-bytes at u)

    module _ {room r₁ : List ℕ} (p₁ : ℕ) (w₁ : Ran room at (rule_record 0 1 1 0 k e) p₁ r₁) where
      pub stage-under-2 : Under at (packed rule_bytes (stage_by z e)) → Under p₁ (rule_record 0 2 0 0 k e)
      stage-under-2 u = under-then w₁ _ (rw stage-bytes at u)

      pub stage-ran : {r₂ : List ℕ} (p₂ : ℕ) → Ran r₁ p₁ (rule_record 0 2 0 0 k e) p₂ r₂ → Ran room at (packed rule_bytes (stage_by z e)) p₂ r₂
      stage-ran p₂ w₂ = rw stage-bytes (ran_then w₁ w₂)

-- ---- the conditions before a stage

module _ (z : List ℕ) (e k : ℕ) (p : k ≡ condition_by z e) where
  pub condition-le : k ≤ e
  condition-le = rw p (tally-le e (text_left z))

  pub condition-same : get_or z e 0 ≡ 0 → k ≡ condition_by z (e + 1)
  condition-same none = p ∙ sym (tally-step e (text_left z) ∙ rw (eq-eqb (get_or z e 0) 0 none) (omega arith))

  pub condition-more : (get_or z e 0 ≡ 0 → ⊥) → k + 1 ≡ condition_by z (e + 1)
  condition-more some = sym (tally-step e (text_left z) ∙ rw (ne_eqb (get_or z e 0) 0 some, ← p) (omega arith))
