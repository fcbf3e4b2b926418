-- The smaller book never has more than the full one, and of a fit chart its image is well-formed. Assumes nothing.
use Prim.Native.Nat.{ℕ, zero, suc, ◌+◌, ◌*◌, ◌≤◌, ◌<◌}
use Rattle.std.specs.Prelude.{◌≡◌, Bool, eqb}
use Rattle.std.proofs.Math.Path.{refl}
use Rattle.std.proofs.Common.{sym}
use Rattle.std.proofs.Math.Bool.{true, false}
use mathlib.Core.List.{List, [], ◌∷◌, ◌++◌}
use native.Mathlib.Omega.{arith}
use Rattle.std.proofs.Math.ListN.{length, length-append}
use borrow.Author.Tests.{eq-eqb, ne_eqb, lt-ltb}
use Rattle.paper.specs.Limits.{max_events, max_marks, max_rules, max_words, and_word, or_word, not_word}
use Rattle.paper.specs.Answers.{granted}
use Rattle.general.specs.Cases.{contra, cases}
use Rattle.general.specs.Lists.{flat, flat-part, length-each, packed, packed_all, All, all_append, all-flat, all_map}
use Rattle.sets.specs.Set.{has}
use Rattle.flat_chart.specs.Chart.{condition, milestone, set_of, Fit}
use Rattle.flat_chart.specs.Flat.{FlatChart}
use Rattle.graph.specs.Flat.{Marking}
use Rattle.book.specs.Book.{condition_of, text_of}
use Rattle.book.specs.GoodTexts.{GoodText, depth_after, follows, good_from, good, good-text}
use Rattle.book.specs.ImageOf.{image_of, image-length}
use Rattle.book.specs.Judging.{image_answer}
use Rattle.book.specs.WellFormed.{WellFormed, well-granted}
use Rattle.book.specs.WellRead.{trigger_exists, sense_exists, RuleFormed}
use Rattle.book.specs.Formed.{FormedBook, formed-image}
use Rattle.book.specs.declared.Rule.{Rule}
use Rattle.derived.specs.Derived.{executed_mark, included_mark, on, opens, closes, listed}
use Rattle.derived.specs.Derived.{derived_rules, derived_text, derived_condition, derived_book}
use Rattle.derived.specs.Sizes.{bytes_needed, rules-most}
use Rattle.derived.proofs.Sizes.{words-most, bytes-length, bytes_most}
use Rattle.smaller.specs.Staying.{stays, new_mark, smaller_marks}
use Rattle.smaller.specs.Clauses.{Clause, alone, guarded, words_of, joiner, spoken_from, spoken, clauses_for, text-spoken, lessened}
use Rattle.smaller.specs.Smaller.{smaller_clauses, smaller_text, has_text, new_condition, restated, reduced, smaller_rules, smaller_book}
use Rattle.smaller.specs.Runs.{max_book}
use Rattle.smaller.specs.Numbering.{tally-rises, new-high, new-below, marks-fewer, marks-least}
use Rattle.smaller.specs.Numbers.{conditions-left, condition-is, smaller-text}
use Rattle.smaller.specs.Formed.{Names, names-less, rules-fewer, conditions-fewer, There, of-kinds, condition-old}

-- ---- parts that are never longer

flat-fewer : {A B : Type 0} (k : ℕ) (g : ℕ → List A) (h : ℕ → List B) → ((e : ℕ) → e < k → length (g e) ≤ length (h e)) → length (flat k g) ≤ length (flat k h)
unfolding flat
flat-fewer zero g h s = omega arith
flat-fewer (suc k) g h s =
    let i : length (flat k g) ≤ length (flat k h) = flat-fewer k g h (λ e l. s e (omega arith)) in
    let j : length (g k) ≤ length (h k) = s k (omega arith) in
    rw (length-append (flat k g) (g k), length-append (flat k h) (h k)) (omega arith)

-- good texts, clause by clause: a stack of one value stays one
module _ (M : ℕ) (few : M ≤ max_marks) where
  plain : (k : ℕ) → k < M → (eqb k and_word ≡ false) × (eqb k or_word ≡ false) × (eqb k not_word ≡ false)
  plain k h = (ne_eqb k and_word (λ e. omega arith), ne_eqb k or_word (λ e. omega arith), ne_eqb k not_word (λ e. omega arith))

  good-later : (l : List Clause) → All (Names (λ w. w < M)) l → good_from M (spoken_from false l) 1 ≡ true
  unfolding spoken_from words_of Names good_from follows depth_after
  good-later [] a = refl
  good-later (alone k ∷ l) a = let (p, q, r) = plain k a.0 in rw (p, q, r, lt-ltb k M a.0) (good-later l a.1)
  good-later (guarded i k ∷ l) a =
      let (p, q, r) = plain i a.0.0 in
      let (s, t, u) = plain k a.0.1 in
      rw (p, q, r, s, t, u, lt-ltb i M a.0.0, lt-ltb k M a.0.1) (good-later l a.1)

  good-spoken : (l : List Clause) → All (Names (λ w. w < M)) l → (length (spoken l) ≡ 0 → ⊥) → good M (spoken l) ≡ true
  unfolding spoken_from words_of Names good good_from follows depth_after
  good-spoken [] a s = absurd (s refl)
  good-spoken (alone k ∷ l) a s = let (p, q, r) = plain k a.0 in rw (p, q, r, lt-ltb k M a.0) (good-later l a.1)
  good-spoken (guarded i k ∷ l) a s =
      let (p, q, r) = plain i a.0.0 in
      let (x, t, u) = plain k a.0.1 in
      rw (p, q, r, x, t, u, lt-ltb i M a.0.0, lt-ltb k M a.0.1) (good-later l a.1)

module _ (stay : ℕ → Bool) (new : ℕ → ℕ) where
  -- a clause goes, or stays and is not longer
  lessened-is : {C : Type 0} (x : Clause) → (lessened stay new x ≡ [] → C) → ((y : Clause) → lessened stay new x ≡ y ∷ [] → length (words_of y) ≤ length (words_of x) → C) → C
  unfolding lessened words_of
  lessened-is (alone k) f g = cases (stay k) (λ t. g (alone (new k)) (rw t) (omega arith)) (λ t. f (rw t))
  lessened-is (guarded i k) f g =
      cases (stay k)
      (λ t. cases (stay i) (λ u. g (guarded (new i) (new k)) (rw (t, u)) (omega arith)) (λ u. g (alone (new k)) (rw (t, u)) (omega arith)))
      (λ t. f (rw t))

  joiner-fewer : (b b' : Bool) → (b' ≡ true → b ≡ true) → length (joiner b) ≤ length (joiner b')
  joiner-fewer true b' h = omega arith
  joiner-fewer false true h = contra (h refl) refl
  joiner-fewer false false h = omega arith

  -- where the full text's first is the first, so is what is left of it
  spoken-fewer : (l : List Clause) (b b' : Bool) → (b' ≡ true → b ≡ true) → length (spoken_from b (packed (lessened stay new) l)) ≤ length (spoken_from b' l)
  unfolding packed spoken_from
  spoken-fewer [] b b' h = omega arith
  spoken-fewer (x ∷ l) b b' h =
      rw (length-append (words_of x) (joiner b' ++ spoken_from false l), length-append (joiner b') (spoken_from false l))
      (lessened-is x
      (λ q. rw q (omega (arith, spoken-fewer l b false (λ z. contra z refl))))
      (λ y q w. let t : List ℕ = spoken_from false (packed (lessened stay new) l) in
      rw (q, length-append (words_of y) (joiner b ++ t), length-append (joiner b) t) (omega (arith, joiner-fewer b b' h, spoken-fewer l false false (λ z. z)))))

  lessened-names : (P Q : ℕ → Type 0) → ((k : ℕ) → P k → stay k ≡ true → Q (new k)) → (x : Clause) → Names P x → All (Names Q) (lessened stay new x)
  unfolding lessened Names
  lessened-names P Q h (alone k) a = cases (stay k) (λ t. rw t (h k a t, tt)) (λ t. rw t tt)
  lessened-names P Q h (guarded i k) a =
      cases (stay k) (λ t. cases (stay i) (λ u. rw (t, u) ((h i a.0 u, h k a.1 t), tt)) (λ u. rw (t, u) (h k a.1 t, tt))) (λ t. rw t tt)

module _ (c : FlatChart) (m : Marking) where
  abbrev n : ℕ
  n = c.count

  pub text-fewer : (e : ℕ) → length (smaller_text c m e) ≤ length (derived_text c e)
  unfolding smaller_text smaller_clauses derived_text
  text-fewer e =
      rw (← text-spoken n e (set_of c condition e) (set_of c milestone e))
      (spoken-fewer (stays c m) (new_mark c m) (clauses_for n e (set_of c condition e) (set_of c milestone e)) true true (λ z. z))

  pub words-fewer : length (flat n (smaller_text c m)) ≤ length (flat n (derived_text c))
  words-fewer = flat-fewer n (smaller_text c m) (derived_text c) (λ e h. text-fewer e)

  clauses-high : (e : ℕ) → All (Names (λ k. n ≤ k)) (clauses_for n e (set_of c condition e) (set_of c milestone e))
  unfolding clauses_for Names
  clauses-high e = (
    omega arith,
    all_append (Names (λ k. n ≤ k)) (flat n (listed (λ f. guarded (included_mark n f) (executed_mark n f) ∷ []) (set_of c condition e))) _
        (all-flat (Names (λ k. n ≤ k)) n _ (λ f h. cases (has (set_of c condition e) f) (λ t. rw t ((omega arith, omega arith), tt)) (λ t. rw t tt)))
        (all-flat (Names (λ k. n ≤ k)) n _ (λ f h. cases (has (set_of c milestone e) f) (λ t. rw t ((omega arith, omega arith), tt)) (λ t. rw t tt))),
  )

  pub clauses-there : (e : ℕ) → All (Names (There c m)) (smaller_clauses c m e)
  unfolding smaller_clauses
  clauses-there e =
      packed_all (lessened (stays c m) (new_mark c m)) (Names (λ k. n ≤ k)) (Names (There c m))
      (lessened-names (stays c m) (new_mark c m) (λ k. n ≤ k) (There c m) (λ k h t. (new-high c m k h, new-below c m k t)))
      (clauses_for n e (set_of c condition e) (set_of c milestone e)) (clauses-high e)

  -- ---- the rules' numbers exist

  abbrev Well : Rule → Type 0
  Well = RuleFormed n (smaller_marks c m) (new_condition c m n)

  module _ (e : ℕ) (h : e < n) where
    number-below : has_text c m e ≡ true → new_condition c m e < new_condition c m n
    unfolding new_condition
    number-below t = tally-rises (has_text c m) e n h t

    on-formed : (b : Bool) (k : ℕ) → All Well (reduced c m (on e b k))
    unfolding reduced restated trigger_exists sense_exists
    on-formed b k = cases (stays c m k) (λ t. rw t (record { trigger = lt-ltb e n h; sense = refl; target = new-below c m k t }, tt)) (λ t. rw t tt)

    opens-formed : All Well (reduced c m (opens e))
    unfolding reduced restated trigger_exists sense_exists
    opens-formed =
        cases (stays c m e)
        (λ t. cases (has_text c m e)
        (λ u. rw (t, u) (record { trigger = refl; sense = lt-ltb (new_condition c m e) (new_condition c m n) (number-below u); target = new-below c m e t }, tt))
        (λ u. rw (t, u) (record { trigger = refl; sense = refl; target = new-below c m e t }, tt)))
        (λ t. rw t tt)

    closes-formed : All Well (reduced c m (closes e))
    unfolding reduced restated trigger_exists sense_exists
    closes-formed =
        cases (stays c m e)
        (λ t. cases (has_text c m e)
        (λ u. rw (t, u) (record { trigger = refl; sense = lt-ltb (new_condition c m e) (new_condition c m n) (number-below u); target = new-below c m e t }, tt))
        (λ u. rw (t, u) tt))
        (λ t. rw t tt)

  rules-formed : All Well (smaller_rules c m)
  rules-formed = of-kinds c m Well on-formed opens-formed closes-formed

  -- ---- the book

  marks-are : (smaller_book c m).marks ≡ smaller_marks c m
  unfolding smaller_book
  marks-are = refl

  stages-are : (smaller_book c m).stages ≡ n
  unfolding smaller_book
  stages-are = refl

  rules-are : (smaller_book c m).rules ≡ smaller_rules c m
  unfolding smaller_book
  rules-are = refl

  words_are : (smaller_book c m).words ≡ flat n (smaller_text c m)
  unfolding smaller_book
  words_are = refl

  pub image-fewer : length (image_of (smaller_book c m)) ≤ length (image_of (derived_book c))
  unfolding derived_book
  image-fewer =
      rw (image-length (smaller_book c m), image-length (derived_book c), conditions-left c m, rules-are, words_are, length-each n (derived_condition c))
      (omega (arith, rules-fewer c m, words-fewer, conditions-fewer c m))

  module _ (fit : Fit c) where
    few : n ≤ max_events
    few = fit.few

    module _ (e : ℕ) (h : e < n) (t : has_text c m e ≡ true) where
      text-left : length (smaller_text c m e) ≡ 0 → ⊥
      unfolding has_text
      text-left z = contra t (rw (eq-eqb (length (smaller_text c m e)) 0 z))

      text-good : GoodText (smaller_marks c m) (smaller_text c m e)
      unfolding smaller_text
      text-good =
          let f : n ≤ max_events = few in
          let g : smaller_marks c m ≤ 4 * n = marks-fewer c m in
          good-text (smaller_marks c m) (spoken (smaller_clauses c m e))
          (good-spoken (smaller_marks c m) (omega arith) (smaller_clauses c m e)
          (all_map (Names (There c m)) (Names (λ w. w < smaller_marks c m)) (names-less (There c m) (λ w. w < smaller_marks c m) (λ w i. i.1)) (smaller_clauses c m e) (clauses-there e))
          text-left)

    pub smaller-formed : FormedBook (smaller_book c m)
    unfolding derived_book
    smaller-formed =
        let f : n ≤ max_events = few in
        let g : smaller_marks c m ≤ 4 * n = marks-fewer c m in
        let q : length (smaller_book c m).conditions ≡ new_condition c m n = conditions-left c m in
        let r : length (derived_rules c) ≤ max_rules = rules-most c fit in
        let w : length (flat n (derived_text c)) ≤ max_words = words-most c fit in
        record {
          stages = rw stages-are f;
          least = rw (stages-are, marks-are) (marks-least c m);
          marks = rw marks-are (omega arith);
          rules = rw rules-are (omega (arith, rules-fewer c m));
          conditions = rw q (omega (arith, conditions-fewer c m));
          words = rw words_are (omega (arith, words-fewer));
          each_rule = rw (q, stages-are, marks-are, rules-are) rules-formed;
          some = condition-old c m (λ k. 1 ≤ (condition_of (smaller_book c m) k).count) (λ e h t. rw (condition-is c m e h t) (omega (arith, text-left e h t)));
          inside = condition-old c m (λ k. (condition_of (smaller_book c m) k).start + (condition_of (smaller_book c m) k).count ≤ length (smaller_book c m).words)
              (λ e h t. rw (condition-is c m e h t, words_are) (flat-part n e (smaller_text c m) h));
          texts = condition-old c m (λ k. GoodText (smaller_book c m).marks (text_of (smaller_book c m) k))
              (λ e h t. rw (smaller-text c m e h t, marks-are) (text-good e h t));
        }

    pub smaller-well : WellFormed (image_of (smaller_book c m))
    smaller-well = formed-image (smaller_book c m) smaller-formed

    -- so none of 20 to 24 is given for it
    pub smaller-granted : image_answer (image_of (smaller_book c m)) ≡ granted
    smaller-granted = sym (well-granted (image_of (smaller_book c m)) smaller-well)

    pub image-most : length (image_of (smaller_book c m)) ≤ max_book
    image-most = let a : length (image_of (derived_book c)) ≡ bytes_needed c = bytes-length c fit in omega (arith, image-fewer, bytes_most c fit)
