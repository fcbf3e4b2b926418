-- What each writer leaves behind, in the form in which the code meets it. Assumes nothing.
use Rattle.std.specs.Prelude.{ℕ, suc, ◌+◌, ◌*◌, ◌≤◌, ◌<◌, ◌≡◌, refl, Bool, true, false, get_or}
use Rattle.std.proofs.Math.Path.{sym}
use Rattle.std.proofs.Common.{◌∙◌, add-one, subst}
use mathlib.Core.List.{List, [], ◌∷◌, ◌++◌, append-nil}
use native.Mathlib.Omega.{arith}
use Rattle.std.proofs.Math.ListN.{length, set}
use Rattle.std.proofs.lemmas.List.Edits.{sets}
use Rattle.paper.specs.Limits.{max_events, rule_size, word_size, not_word, or_word, and_word}
use Rattle.sets.specs.Set.{has, union, within}
use Rattle.wide.specs.Words.{Words}
use Rattle.wide.specs.Number.{words_of, set_words, number}
use Rattle.wide.specs.declared.Set.{Set}
use Rattle.wire.specs.Wire.{put16, put32, bytes16, bytes32}
use Rattle.wire.specs.Laws.{length-bytes16}
use Rattle.general.specs.Lists.{total-step, flat, flat-same, packed, packed-one, packed-append, length-packed}
use Rattle.book.specs.ImageOf.{effect_byte, rule_record, rule_bytes, length-rule, condition_bytes}
use Rattle.book.specs.declared.Rule.{Rule}
use Rattle.derived.specs.Derived.{answered_mark, listed, on, setting_executed, inclusion, responding, answering, completion, text_for, stage_rules}
use Rattle.derived.specs.Members.{has_word, listed-words}
use Rattle.derived.specs.Sizes.{effect, effects, inclusion-effects, responding-effects, completion_size, completion-le, completions_size, completion_rules, text_size, text-le, texts_size, text_words}
use Rattle.derived.specs.Parts.{completion_at, CompletionsIn, CompletionKept, completion_of, text_at, TextsIn, TextKept, text_of, condition_made, clause_from}
use Rattle.flat_chart.specs.Chart.{row_of}
use Rattle.flat_chart.specs.Flat.{FlatChart, Row}
use Rattle.general.specs.Writing.{Fits, Wrote, wrote_none, wrote-length, then, fits-first, fits-then}

-- ---- one rule

record-stored : (room : List ℕ) (at k s e n c t : ℕ)
    → put16 (put16 (put16 (set (set (set (set room at k) (at + 1) s) (at + 2) e) (at + 3) 0) (at + 4) n) (at + 6) c) (at + 8) t ≡ sets room at (rule_record k s e n c t)
unfolding put16 rule_record bytes16
record-stored room at k s e n c t =
    let p9 : at + 8 + 1 ≡ suc (suc (suc (suc (suc (suc (suc (suc (suc at)))))))) = omega arith in
    let p8 : at + 8 ≡ suc (suc (suc (suc (suc (suc (suc (suc at))))))) = omega arith in
    let p7 : at + 6 + 1 ≡ suc (suc (suc (suc (suc (suc (suc at)))))) = omega arith in
    let p6 : at + 6 ≡ suc (suc (suc (suc (suc (suc at))))) = omega arith in
    let p5 : at + 4 + 1 ≡ suc (suc (suc (suc (suc at)))) = omega arith in
    let p4 : at + 4 ≡ suc (suc (suc (suc at))) = omega arith in
    let p3 : at + 3 ≡ suc (suc (suc at)) = omega arith in
    let p2 : at + 2 ≡ suc (suc at) = omega arith in
    let p1 : at + 1 ≡ suc at = omega arith in
    rw (p9, p8, p7, p6, p5, p4, p3, p2, p1)

pub rule-wrote : {room r₁ r₂ r₃ : List ℕ} (at k s e n c t : ℕ)
    → r₁ ≡ put16 (set (set (set (set room at k) (at + 1) s) (at + 2) e) (at + 3) 0) (at + 4) n → r₂ ≡ put16 r₁ (at + 6) c → r₃ ≡ put16 r₂ (at + 8) t
    → Wrote room at (rule_record k s e n c t) (at + 10) r₃
unfolding rule_record bytes16
rule-wrote {room} at k s e n c t p q r = record { place = refl; holds = r ∙ rw (q, p) (record-stored room at k s e n c t) }

pub on-wrote : {room after : List ℕ} (at next e m v : ℕ) (b : Bool) → v ≡ effect_byte b → Wrote room at (rule_record 1 0 v e 0 m) next after
    → Wrote room at (packed rule_bytes (on e b m ∷ [])) next after
unfolding rule_bytes
on-wrote at next e m v b p w = rw (packed-one rule_bytes (on e b m), ← p) w

pub fits_one : (room : List ℕ) (at : ℕ) (r : Rule) → Fits room at (packed rule_bytes (r ∷ [])) → at + 10 ≤ length room
fits_one room at r h =
    let l : length (packed rule_bytes (r ∷ [])) ≡ 10 = length-packed rule_bytes rule_size length-rule (r ∷ []) in
    omega arith

-- ---- "set answered e unless e is its own response"

module _ (room : List ℕ) (at n e r : ℕ) (b : Bool) (p : b ≡ has r e) where
  pub answer-none : b ≡ true → Wrote room at (packed rule_bytes (answering n e r)) at room
  unfolding answering packed
  answer-none t = rw (← p, t) (wrote_none room at)

  module _ (t : b ≡ false) where
    set-answered : answering n e r ≡ on e true (answered_mark n e) ∷ []
    unfolding answering
    set-answered = rw (← p, t)

    pub answer-fits : Fits room at (packed rule_bytes (answering n e r)) → at + 10 ≤ length room
    answer-fits h = fits_one room at (on e true (answered_mark n e)) (rw set-answered at h)

    pub answer-wrote : (next : ℕ) (after : List ℕ) → Wrote room at (packed rule_bytes (on e true (answered_mark n e) ∷ [])) next after
        → Wrote room at (packed rule_bytes (answering n e r)) next after
    answer-wrote next after w = rw set-answered w

-- ---- one rule of a run

pub effect-fits : (room : List ℕ) (at e raise base f : ℕ) → Fits room at (packed rule_bytes (effect e raise base f)) → at + 10 ≤ length room
unfolding effect
effect-fits room at e raise base f h = fits_one room at (on e (has raise f) (base + f)) h

pub effect-wrote : {room after : List ℕ} (at e raise base f next : ℕ) (b : Bool) → b ≡ has raise f → Wrote room at (packed rule_bytes (on e b (base + f) ∷ [])) next after
    → Wrote room at (packed rule_bytes (effect e raise base f)) next after
unfolding effect
effect-wrote at e raise base f next b p w = rw p at w

-- ---- a run of rules on the members of a set, word by word

-- on the members in word i, where rs and ws are the words of raise and among
unfoldable pub word_effects : ℕ → List ℕ → List ℕ → ℕ → ℕ → List Rule
word_effects e rs ws base i = effects 64 e (get_or rs i 0) (get_or ws i 0) (base + i * 64)

module _ (e : ℕ) (rs ws : List ℕ) (base i a b : ℕ) (p : a ≡ get_or rs i 0) (q : b ≡ get_or ws i 0) where
  pub word-effects-fit : (room : List ℕ) (at : ℕ) → Fits room at (packed rule_bytes (word_effects e rs ws base i)) → Fits room at (packed rule_bytes (effects 64 e a b (base + i * 64)))
  unfolding word_effects
  word-effects-fit room at h = rw (p, q) h

  pub word-effects : {room after : List ℕ} (at next : ℕ) → Wrote room at (packed rule_bytes (effects 64 e a b (base + i * 64))) next after
      → Wrote room at (packed rule_bytes (word_effects e rs ws base i)) next after
  unfolding word_effects
  word-effects at next w = rw (← p, ← q) w

module _ (n e : ℕ) (raise among : Set) (base : ℕ) (few : n ≤ max_events) (p : Words (words_of raise)) (q : Words (words_of among)) (in-n : within n (number among) ≡ true) where
  effects-words : effects n e (number raise) (number among) base ≡ flat set_words (word_effects e (words_of raise) (words_of among) base)
  unfolding word_effects effect
  effects-words =
      listed-words (effect e (number raise) base) n among q few in-n
      ∙ flat-same set_words (λ i. flat 64 (listed (λ f. effect e (number raise) base (i * 64 + f)) (get_or (words_of among) i 0))) (word_effects e (words_of raise) (words_of among) base)
      (λ i l. flat-same 64 (listed (λ f. effect e (number raise) base (i * 64 + f)) (get_or (words_of among) i 0))
      (listed (effect e (get_or (words_of raise) i 0) (base + i * 64)) (get_or (words_of among) i 0))
      (λ f h. let z : base + (i * 64 + f) ≡ base + i * 64 + f = omega arith in rw (has_word raise p i f h, z)))

  pub effects-fit : (room : List ℕ) (at : ℕ) → Fits room at (packed rule_bytes (effects n e (number raise) (number among) base))
      → Fits room at (packed rule_bytes (flat set_words (word_effects e (words_of raise) (words_of among) base)))
  effects-fit room at h = rw effects-words at h

  pub effects-wrote : {room after : List ℕ} (at next : ℕ) → Wrote room at (packed rule_bytes (flat set_words (word_effects e (words_of raise) (words_of among) base))) next after
      → Wrote room at (packed rule_bytes (effects n e (number raise) (number among) base)) next after
  effects-wrote at next w = rw effects-words w

-- ---- everything on one completion: four runs, where u is what e includes or excludes and z is nothing

pub changed-within : (n i x u : ℕ) → u ≡ union i x → within n (union i x) ≡ true → within n u ≡ true
changed-within n i x u pu h = rw pu h

module _ (n e i x r u z : ℕ) (room : List ℕ) (at : ℕ) (pu : u ≡ union i x) (pz : z ≡ 0) where
  abbrev included : List ℕ
  included = packed rule_bytes (effects n e i u (2 * n))

  abbrev responded : List ℕ
  responded = packed rule_bytes (effects n e z r (3 * n))

  abbrev answered : List ℕ
  answered = packed rule_bytes (answering n e r)

  abbrev done : List ℕ
  done = packed rule_bytes (setting_executed n e ∷ [])

  completion-bytes : packed rule_bytes (completion n e i x r) ≡ included ++ (responded ++ (answered ++ done))
  unfolding completion
  completion-bytes =
      rw (
        packed-append rule_bytes (flat n (inclusion n e i x)),
        packed-append rule_bytes (flat n (responding n e r)),
        packed-append rule_bytes (answering n e r),
        inclusion-effects n e i x,
        responding-effects n e r,
        pu,
        pz,
      )

  module _ (fits : Fits room at (packed rule_bytes (completion n e i x r))) where
    whole : Fits room at (included ++ (responded ++ (answered ++ done)))
    whole = rw completion-bytes at fits

    pub completion-fits-1 : Fits room at included
    completion-fits-1 = fits-first room at included _ whole

    module _ (p₁ : ℕ) (r₁ : List ℕ) (w₁ : Wrote room at included p₁ r₁) where
      pub completion-fits-2 : Fits r₁ p₁ responded
      completion-fits-2 = fits-first r₁ p₁ responded _ (fits-then w₁ _ whole)

      module _ (p₂ : ℕ) (r₂ : List ℕ) (w₂ : Wrote r₁ p₁ responded p₂ r₂) where
        pub completion-fits-3 : Fits r₂ p₂ answered
        completion-fits-3 = fits-first r₂ p₂ answered _ (fits-then w₂ _ (fits-then w₁ _ whole))

        module _ (p₃ : ℕ) (r₃ : List ℕ) (w₃ : Wrote r₂ p₂ answered p₃ r₃) where
          pub completion-fits-4 : p₃ + 10 ≤ length r₃
          completion-fits-4 = fits_one r₃ p₃ (setting_executed n e) (fits-then w₃ _ (fits-then w₂ _ (fits-then w₁ _ whole)))

          pub completion-wrote : (p₄ : ℕ) (r₄ : List ℕ) → Wrote r₃ p₃ done p₄ r₄ → Wrote room at (packed rule_bytes (completion n e i x r)) p₄ r₄
          completion-wrote p₄ r₄ w₄ = rw completion-bytes (then w₁ (then w₂ (then w₃ w₄)))

-- ---- the two rules of a stage

pub stage-second : (room : List ℕ) (at next k s v m c t : ℕ) (after : List ℕ) → at + 20 ≤ length room → Wrote room at (rule_record k s v m c t) next after → next + 10 ≤ length after
unfolding rule_record bytes16
stage-second room at next k s v m c t after h w =
    let l : length after ≡ length room = wrote-length w in
    let p : next ≡ at + 10 = w.place in
    omega arith

pub stage-wrote : {room r₁ r₂ : List ℕ} (at p₁ p₂ e : ℕ) → Wrote room at (rule_record 0 1 1 0 e e) p₁ r₁ → Wrote r₁ p₁ (rule_record 0 2 0 0 e e) p₂ r₂
    → Wrote room at (packed rule_bytes (stage_rules e)) p₂ r₂
unfolding packed rule_bytes
stage-wrote at p₁ p₂ e w v = then w (rw append-nil v)

pub stage-fits : (room : List ℕ) (at e : ℕ) → Fits room at (packed rule_bytes (stage_rules e)) → at + 20 ≤ length room
stage-fits room at e h =
    let l : length (packed rule_bytes (stage_rules e)) ≡ 20 = length-packed rule_bytes rule_size length-rule (stage_rules e) in
    omega arith

-- ---- e's own sets out of a chart's row

module _ (c : FlatChart) (e : ℕ) {r : Row} (p : r ≡ row_of c e) where
  pub row-rules : {v : ℕ} → v ≡ completion_size e r.includes r.excludes r.responses → v ≡ completion_rules c e
  row-rules q = q ∙ rw p

  pub row-words : {v : ℕ} → v ≡ text_size r.conditions r.milestones → v ≡ text_words c e
  row-words q = q ∙ rw p

  pub row-inclusions : CompletionKept c e → within c.count (union r.includes r.excludes) ≡ true
  row-inclusions ok = rw p ok.0

  pub row-responses : CompletionKept c e → within c.count r.responses ≡ true
  row-responses ok = rw p ok.1

  pub row-conditions : TextKept c e → within c.count r.conditions ≡ true
  row-conditions ok = rw p ok.0

  pub row-milestones : TextKept c e → within c.count r.milestones ≡ true
  row-milestones ok = rw p ok.1

  pub row-completion : (room : List ℕ) (at : ℕ) → Fits room at (completion_of c e) → Fits room at (packed rule_bytes (completion c.count e r.includes r.excludes r.responses))
  unfolding completion_at
  row-completion room at f = rw p f

  pub row-text : (room : List ℕ) (at : ℕ) → Fits room at (text_of c e) → Fits room at (packed bytes16 (text_for c.count e r.conditions r.milestones))
  unfolding text_at
  row-text room at f = rw p f

  module _ {room after : List ℕ} {at next : ℕ} where
    pub completion-row : Wrote room at (packed rule_bytes (completion c.count e r.includes r.excludes r.responses)) next after → Wrote room at (completion_of c e) next after
    unfolding completion_at
    completion-row w = subst (λ (r : Row). Wrote room at (packed rule_bytes (completion c.count e r.includes r.excludes r.responses)) next after) p w

    pub text-row : Wrote room at (packed bytes16 (text_for c.count e r.conditions r.milestones)) next after → Wrote room at (text_of c e) next after
    unfolding text_at
    text-row w = subst (λ (r : Row). Wrote room at (packed bytes16 (text_for c.count e r.conditions r.milestones)) next after) p w

-- ---- sizes, event by event

module _ (n : ℕ) (i x r : List ℕ) (few : n ≤ max_events) (ok : CompletionsIn n i x r) (e v : ℕ) (h : e < n) (q : v ≡ completion_size e (get_or i e 0) (get_or x e 0) (get_or r e 0)) where
  pub completion-small : v ≤ 2 * max_events + 1
  completion-small =
      let l : completion_size e (get_or i e 0) (get_or x e 0) (get_or r e 0) ≤ 2 * n + 1 = completion-le n e h _ _ _ (ok.inclusions e h) (ok.responses e h) in
      omega arith

  pub completions-more : (s : ℕ) → s ≡ completions_size e i x r → s + v ≡ completions_size (e + 1) i x r
  unfolding completions_size
  completions-more s p = rw (p, q) (sym (total-step e _))

module _ (n : ℕ) (t m : List ℕ) (few : n ≤ max_events) (ok : TextsIn n t m) (e v : ℕ) (h : e < n) (q : v ≡ text_size (get_or t e 0) (get_or m e 0)) where
  pub text-small : v ≤ 10 * max_events + 1
  text-small =
      let l : text_size (get_or t e 0) (get_or m e 0) ≤ 10 * n + 1 = text-le n _ _ (ok.conditions e h) (ok.milestones e h) in
      omega arith

  pub texts-more : (s : ℕ) → s ≡ texts_size e t m → s + v ≡ texts_size (e + 1) t m
  unfolding texts_size
  texts-more s p = rw (p, q) (sym (total-step e _))

-- ---- words and numbers, one behind the other

pub word-wrote : {room after : List ℕ} (at next w : ℕ) → next ≡ at + 2 → after ≡ put16 room at w → Wrote room at (bytes16 w) next after
unfolding put16 bytes16
word-wrote at next w p q = record { place = p; holds = q ∙ rw add-one }

pub number-wrote : {room after : List ℕ} (at next x : ℕ) → next ≡ at + 4 → after ≡ put32 room at x → Wrote room at (bytes32 x) next after
unfolding put32 put16 bytes32 bytes16
number-wrote at next x p q =
    let a : at + 2 + 1 ≡ suc (suc (suc at)) = omega arith in
    let b : at + 2 ≡ suc (suc at) = omega arith in
    let d : at + 1 ≡ suc at = omega arith in
    record { place = p; holds = q ∙ rw (a, b, d) }

pub clause-wrote : {room r₁ r₂ r₃ r₄ r₅ : List ℕ} (at a b c d e : ℕ)
    → r₁ ≡ put16 room at a → r₂ ≡ put16 r₁ (at + 2) b → r₃ ≡ put16 r₂ (at + 4) c → r₄ ≡ put16 r₃ (at + 6) d → r₅ ≡ put16 r₄ (at + 8) e
    → Wrote room at (packed bytes16 (a ∷ (b ∷ (c ∷ (d ∷ (e ∷ [])))))) (at + 10) r₅
unfolding packed
clause-wrote at a b c d e p q r s t =
    then (word-wrote at (at + 2) a refl p)
    (then (word-wrote (at + 2) (at + 4) b (omega arith) q)
    (then (word-wrote (at + 4) (at + 6) c (omega arith) r)
    (then (word-wrote (at + 6) (at + 8) d (omega arith) s) (rw append-nil (word-wrote (at + 8) (at + 10) e (omega arith) t)))))

-- ---- one clause of a run

pub clause-fits : (room : List ℕ) (at i base f : ℕ) → Fits room at (packed bytes16 (clause_from i base f)) → at + 10 ≤ length room
unfolding clause_from
clause-fits room at i base f h =
    let l : length (packed bytes16 (clause_from i base f)) ≡ 10 = length-packed bytes16 word_size length-bytes16 (clause_from i base f) in
    omega arith

pub clause-from : {room after : List ℕ} (at i base f next : ℕ) → Wrote room at (packed bytes16 ((i + f) ∷ (not_word ∷ ((base + f) ∷ (or_word ∷ (and_word ∷ [])))))) next after
    → Wrote room at (packed bytes16 (clause_from i base f)) next after
unfolding clause_from
clause-from at i base f next w = w

-- ---- a run of clauses on the members of a set, word by word

-- on the members in word i, where ws are the words of the set
unfoldable pub word_clauses : ℕ → ℕ → List ℕ → ℕ → List ℕ
word_clauses included base ws i = flat 64 (listed (clause_from (included + i * 64) (base + i * 64)) (get_or ws i 0))

module _ (included base : ℕ) (ws : List ℕ) (i w : ℕ) (p : w ≡ get_or ws i 0) where
  pub word-clauses-fit : (room : List ℕ) (at : ℕ) → Fits room at (packed bytes16 (word_clauses included base ws i))
      → Fits room at (packed bytes16 (flat 64 (listed (clause_from (included + i * 64) (base + i * 64)) w)))
  unfolding word_clauses
  word-clauses-fit room at h = rw p h

  pub word-clauses : {room after : List ℕ} (at next : ℕ) → Wrote room at (packed bytes16 (flat 64 (listed (clause_from (included + i * 64) (base + i * 64)) w))) next after
      → Wrote room at (packed bytes16 (word_clauses included base ws i)) next after
  unfolding word_clauses
  word-clauses at next v = rw (← p) v

module _ (n included base : ℕ) (set : Set) (few : n ≤ max_events) (p : Words (words_of set)) (in-n : within n (number set) ≡ true) where
  clauses-words : flat n (listed (clause_from included base) (number set)) ≡ flat set_words (word_clauses included base (words_of set))
  unfolding word_clauses clause_from
  clauses-words =
      listed-words (clause_from included base) n set p few in-n
      ∙ flat-same set_words (λ i. flat 64 (listed (λ f. clause_from included base (i * 64 + f)) (get_or (words_of set) i 0))) (word_clauses included base (words_of set))
      (λ i l. flat-same 64 (listed (λ f. clause_from included base (i * 64 + f)) (get_or (words_of set) i 0))
      (listed (clause_from (included + i * 64) (base + i * 64)) (get_or (words_of set) i 0))
      (λ f h. let y : included + (i * 64 + f) ≡ included + i * 64 + f = omega arith in let z : base + (i * 64 + f) ≡ base + i * 64 + f = omega arith in rw (y, z)))

  pub clauses-fit : (room : List ℕ) (at : ℕ) → Fits room at (packed bytes16 (flat n (listed (clause_from included base) (number set))))
      → Fits room at (packed bytes16 (flat set_words (word_clauses included base (words_of set))))
  clauses-fit room at h = rw clauses-words at h

  pub clauses-wrote : {room after : List ℕ} (at next : ℕ) → Wrote room at (packed bytes16 (flat set_words (word_clauses included base (words_of set)))) next after
      → Wrote room at (packed bytes16 (flat n (listed (clause_from included base) (number set)))) next after
  clauses-wrote at next w = rw clauses-words w

-- ---- one condition record

pub condition-wrote : {room r₁ r₂ : List ℕ} (at start count : ℕ) → r₁ ≡ put32 room at start → r₂ ≡ put32 r₁ (at + 4) count
    → Wrote room at (packed condition_bytes (condition_made start count ∷ [])) (at + 8) r₂
unfolding condition_bytes
condition-wrote at start count p q =
    rw (packed-one condition_bytes (condition_made start count)) (then (number-wrote at (at + 4) start refl p) (number-wrote (at + 4) (at + 8) count (omega arith) q))
