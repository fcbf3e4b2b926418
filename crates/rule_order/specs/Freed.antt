-- How many words of each condition's text, from its start, are known to name no mark of a set. A set that shrinks keeps this true. Assumes nothing.
use Rattle.std.specs.Prelude.{◌≡◌, refl, Bool, true, false, ◌&&◌, List, [], ◌∷◌, ℕ, zero, suc, ◌+◌, ◌*◌, ◌≤◌, ◌<◌, eqb, ltb, length, get_or, replicate}
use Rattle.std.proofs.Common.{sym, arith, eqb-true, eq-eqb, ltb-true}
use Rattle.std.proofs.lemmas.List.{length-replicate}
use Rattle.paper.specs.Limits.{max_marks, max_conditions, word_size}
use Rattle.general.specs.Cases.{contra, both, either, or_right, not_so}
use Rattle.general.specs.Tables.{zeros-at}
use Rattle.wire.specs.Wire.{u16_at}
use Rattle.book.specs.Text.{elem}
use Rattle.book.specs.Book.{text_of}
use Rattle.book.specs.Image.{conditions_in, book_of}
use Rattle.book.specs.Marks.{has_mark}
use Rattle.rule_order.specs.References.{names}

-- whether the word w is a mark of the set; and, or, not lie above every mark
unfoldable pub is_in : List ℕ → ℕ → Bool
is_in marks w = ltb w max_marks && has_mark marks w

-- the first words of the text of condition c, as many as stand at c, name no mark of the set
pub record Freed (s marks free : List ℕ) : Type 0 where
  pub room : length free ≡ max_conditions
  pub upto : (c : ℕ) → c < conditions_in s → get_or free c 0 ≤ length (text_of (book_of s) c)
  pub none : (c i : ℕ) → c < conditions_in s → i < get_or free c 0 → is_in marks (get_or (text_of (book_of s) c) i 0) ≡ false

-- every mark of the set `after` is one of the set
pub record Shrunk (marks after : List ℕ) : Type 0 where
  pub kept : (m : ℕ) → m < max_marks → has_mark after m ≡ true → has_mark marks m ≡ true

-- nothing is known
pub freed-first : (s marks : List ℕ) → Freed s marks (replicate max_conditions 0)
freed-first s marks =
    record {
      room = length-replicate {A = ℕ} max_conditions 0;
      upto = λ c h. rw (zeros-at max_conditions c) (omega arith);
      none = λ c i h l. absurd (omega (arith, zeros-at max_conditions c));
    }

pub freed-shrunk : (s marks after free : List ℕ) → Shrunk marks after → Freed s marks free → Freed s after free
unfolding is_in
freed-shrunk s marks after free k f =
    record {
      room = f.room;
      upto = f.upto;
      none = λ c i h l. let w = get_or (text_of (book_of s) c) i 0 in
          not_so (λ e. let (a, b) = both (ltb w max_marks) (has_mark after w) e in contra (rw (a, k.kept w (ltb-true w max_marks a) b)) (f.none c i h l));
    }

-- ---- a text names the marks that are words of it

pub named-at : (m : ℕ) (ws : List ℕ) → names ws m ≡ true → (i : ℕ) × (i < length ws) × (get_or ws i 0 ≡ m)
unfolding names elem
named-at m [] e = contra e refl
named-at m (w ∷ ws) e =
    either (eqb m w) (elem m ws) e (λ x. (0, omega arith, sym (eqb-true m w x))) (λ x. let (i, h, y) = named-at m ws x in (suc i, omega arith, y))

pub at_named : (ws : List ℕ) (i : ℕ) → i < length ws → names ws (get_or ws i 0) ≡ true
unfolding names elem
at_named [] i h = absurd (omega arith)
at_named (w ∷ ws) zero h = rw (eq-eqb w w refl)
at_named (w ∷ ws) (suc i) h = or_right (eqb (get_or ws i 0) w) (elem (get_or ws i 0) ws) (at_named ws i (omega arith))

-- ---- where the reading of a text stops

-- no word from `from` to below i is a mark of the set, in a text of so many words from the byte `at`
pub record Clear (s : List ℕ) (at from count : ℕ) (marks : List ℕ) (i : ℕ) : Type 0 where
  pub low : from ≤ i
  pub high : i ≤ count
  pub passed : (k : ℕ) → from ≤ k → k < i → is_in marks (u16_at s (at + word_size * k)) ≡ false

-- and the next one is, where there is one
pub record Stopped (s : List ℕ) (at from count : ℕ) (marks : List ℕ) (i : ℕ) : Type 0 where
  pub clear : Clear s at from count marks i
  pub stops : i < count → is_in marks (u16_at s (at + word_size * i)) ≡ true
