-- What the loops keep that ask the texts: the sources of the words so far are in the word. Assumes nothing.
use mathlib.Core.Path.{◌≡◌, refl, sym, ap, ◌∙◌}
use mathlib.Core.Logic.{◌⊎◌, inl, inr, ⊎_elim}
use mathlib.Core.Bool.{true, ◌||◌}
use mathlib.Core.List.{List}
use Prim.Native.Nat.{ℕ, ◌+◌, ◌-◌, ◌*◌, ◌≤◌, ◌<◌}
use native.Mathlib.Omega.{arith}
use lib.Dec.{eqb}
use lib.ListN.{length, get_or, set, length-set, get_or-eq_default}
use lib.Seq.{get_or-set_same, get_or-set_other}
use borrow.Author.Tests.{eqb-true, eqb-false, eq-eqb}
use Rattle.paper.specs.Limits.{max_marks, max_conditions, word_size}
use Rattle.general.specs.Cases.{contra, cases, either, or_left, or_right}
use Rattle.sets.specs.Set.{has, union}
use Rattle.sets.specs.Laws.{has-union, has-empty}
use Rattle.wire.specs.Wire.{u16_at}
use Rattle.book.specs.Text.{elem}
use Rattle.book.specs.Book.{text_of}
use Rattle.book.specs.Image.{conditions_in, condition_place, book_of}
use Rattle.book.specs.Read.{words_from, words_more, words-none, words-all}
use Rattle.book.specs.Reading.{span_from}
use Rattle.book.specs.WellRead.{Opened, span-text}
use Rattle.book.specs.declared.Counts.{Counts}
use Rattle.book.specs.declared.Span.{Span}
use Rattle.loop_search.specs.Spreading.{reaches, Asked}
use Rattle.loop_search.proofs.Reading.{conditions-many}

pub none-past : (reached : List ℕ) (w : ℕ) → length reached ≡ max_marks → max_marks ≤ w → 0 ≡ get_or reached w 0
none-past reached w l h = sym (get_or-eq_default reached 0 (omega arith))

-- ---- a text

abbrev rest : List ℕ → ℕ → ℕ → ℕ → List ℕ
rest s at n i = words_from s (at + word_size * i) (n - i)

pub record Asking (s : List ℕ) (at n : ℕ) (reached : List ℕ) (all i : ℕ) : Type 0 where
  pub takes : (x d : ℕ) → elem x (words_from s at n) ≡ true → reaches reached x d ≡ true → (has all d ≡ true) ⊎ (elem x (rest s at n i) ≡ true)
  pub gives : (d : ℕ) → has all d ≡ true → (x : ℕ) × (elem x (words_from s at n) ≡ true) × (reaches reached x d ≡ true)
  pub later : (x : ℕ) → elem x (rest s at n i) ≡ true → elem x (words_from s at n) ≡ true

pub asking-first : (s : List ℕ) (at n : ℕ) (reached : List ℕ) → Asking s at n reached 0 0
asking-first s at n reached =
    record {
      takes = λ x d e t. inr (rw (words-all s at n) e);
      gives = λ d e. contra e (has-empty d);
      later = λ x e. rw (words-all s at n) at e;
    }

module _ (s : List ℕ) (at n : ℕ) (reached : List ℕ) (all i : ℕ) (g : Asking s at n reached all i) where
  pub asking-more : (w v next : ℕ) → i < n → w ≡ u16_at s (at + word_size * i) → v ≡ get_or reached w 0 → next ≡ union all v → Asking s at n reached next (i + 1)
  unfolding elem
  asking-more w v next h p q e =
      record {
        takes = λ x d m t. ⊎_elim (λ y. inl (more d (or_left (has all d) (has v d) y)))
            (λ y. either (eqb x word) (elem x (rest s at n (i + 1))) (rw (words_more s at n i h) at y)
            (λ z. inl (more d (or_right (has all d) (has v d) (ap (λ (a : ℕ). has a d) (q ∙ ap (λ (a : ℕ). get_or reached a 0) (p ∙ sym (eqb-true x word z))) ∙ t)))) (λ z. inr z)) (g.takes x d m t);
        gives = λ d m. either (has all d) (has v d) (sym (ap (λ (a : ℕ). has a d) e ∙ has-union all v d) ∙ m) (g.gives d)
            (λ y. (word, g.later word (rw (words_more s at n i h, eq-eqb word word refl)), sym (ap (λ (a : ℕ). has a d) (q ∙ ap (λ (a : ℕ). get_or reached a 0) p)) ∙ y));
        later = λ x m. g.later x (rw (words_more s at n i h) (or_right (eqb x word) (elem x (rest s at n (i + 1))) m));
      }
    where
      word : ℕ
      word = u16_at s (at + word_size * i)

      more : (d : ℕ) → (has all d || has v d) ≡ true → has next d ≡ true
      more d m = ap (λ (a : ℕ). has a d) e ∙ has-union all v d ∙ m

  pub asking-last : n ≤ i → Asked (words_from s at n) reached all
  unfolding elem
  asking-last h = record { takes = λ x d m t. ⊎_elim (λ y. y) (λ y. contra y (rw (words-none s at n i h))) (g.takes x d m t); gives = g.gives }

-- the words that a condition's record names are its text
pub asked-text : (s : List ℕ) (h : Counts) → Opened s h → (c : ℕ) → c < conditions_in s → (span : Span) (from : ℕ) → span ≡ span_from s (condition_place h.rules c)
    → from ≡ condition_place h.rules h.conditions → (reached : List ℕ) (w : ℕ) → Asked (words_from s (from + word_size * span.start) span.count) reached w
    → Asked (text_of (book_of s) c) reached w
asked-text s h o c l span from a b reached w g = rw (span-text s h o c l span from a b) at g

-- ---- all texts

pub record AskedUpto (s reached asked : List ℕ) (c : ℕ) : Type 0 where
  pub room : length asked ≡ max_conditions
  pub within : c ≤ conditions_in s
  pub each : (d : ℕ) → d < c → Asked (text_of (book_of s) d) reached (get_or asked d 0)

module _ (s reached asked : List ℕ) (c : ℕ) (g : AskedUpto s reached asked c) (h : Counts) (o : Opened s h) where
  pub upto-below : c < h.conditions → c < conditions_in s
  upto-below l = omega (arith, conditions-many s h o)

  pub upto-fits : c < h.conditions → c < max_conditions
  upto-fits l = let m = o.formed.headed.counted.conditions in omega (arith, conditions-many s h o)

  pub upto-more : (w : ℕ) → c < h.conditions → Asked (text_of (book_of s) c) reached w → AskedUpto s reached (set asked c w) (c + 1)
  upto-more w l a =
      let f = upto-fits l in
      let r = g.room in
      record {
        room = length-set asked c w ∙ r;
        within = omega (arith, upto-below l);
        each = λ d i. cases (eqb d c)
            (λ x. rw (eqb-true d c x, get_or-set_same asked c w 0 (omega arith)) a)
            (λ x. rw (get_or-set_other asked c d w 0 (eqb-false d c x)) (g.each d (let n = eqb-false d c x in omega arith)));
      }
