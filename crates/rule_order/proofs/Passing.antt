-- The reading of a text up to a mark of a set, as the code goes on with it. Assumes nothing.
use mathlib.Core.Path.{◌≡◌, sym, ap, ◌∙◌}
use mathlib.Core.Bool.{Bool, true, false}
use mathlib.Core.List.{List}
use Rattle.std.specs.Prelude.{Some, None}
use Prim.Native.Nat.{ℕ, ◌+◌, ◌*◌, ◌≤◌, ◌<◌}
use native.Mathlib.Omega.{arith}
use lib.Dec.{eqb, ltb}
use lib.ListN.{length, get_or, set, length-set}
use lib.Seq.{get_or-set_same, get_or-set_other}
use borrow.Author.Tests.{eqb-true, eqb-false, ltb-true, ltb-false, lt-ltb}
use Rattle.paper.specs.Limits.{max_marks, word_size}
use Rattle.general.specs.Cases.{cases, both}
use Rattle.wire.specs.Wire.{u16_at}
use Rattle.book.specs.Book.{text_of}
use Rattle.book.specs.Image.{rules_in, conditions_in, condition_place, word_place, condition_from, words_offset, start_at, count_at, book_of}
use Rattle.book.specs.Read.{length-words, get_or-words}
use Rattle.book.specs.Marks.{has_mark}
use Rattle.book.specs.WellFormed.{WellFormed}
use Rattle.book.specs.WellRead.{text-is}
use Rattle.rule_order.specs.References.{names, Witnessed}
use Rattle.rule_order.specs.Freed.{is_in, Freed, Clear, Stopped, named-at, at_named}

-- ---- the loop

module _ (s : List ℕ) (at from count : ℕ) (marks : List ℕ) where
  pub clear_first : from ≤ count → Clear s at from count marks from
  clear_first h = record { low = omega arith; high = h; passed = λ k l m. absurd (omega arith) }

  module _ (i : ℕ) (f : Clear s at from count marks i) where
    pub clear-ends : count ≤ i → Stopped s at from count marks i
    clear-ends h = record { clear = f; stops = λ l. absurd (omega arith) }

    module _ (w : ℕ) (b : Bool) (h : i < count) (p : w ≡ u16_at s (at + word_size * i)) (q : b ≡ is_in marks w) where
      here : is_in marks (u16_at s (at + word_size * i)) ≡ b
      here = ap (is_in marks) (sym p) ∙ sym q

      pub clear-stops : b ≡ true → Stopped s at from count marks i
      clear-stops t = record { clear = f; stops = λ l. here ∙ t }

      pub clear-more : b ≡ false → Clear s at from count marks (i + 1)
      clear-more t =
          record {
            low = let l = f.low in omega arith;
            high = omega arith;
            passed = λ k l m. cases (eqb k i) (λ x. rw (eqb-true k i x) (here ∙ t)) (λ x. f.passed k l (let n = eqb-false k i x in omega arith));
          }

-- ---- a condition's record, and its text

module _ (s : List ℕ) (w : WellFormed s) (c : ℕ) (h : c < conditions_in s) where
  module _ (at start count words : ℕ) (z : at ≡ condition_place (rules_in s) c) (p' : start ≡ start_at s at) (q' : count ≡ count_at s at) (o : words ≡ words_offset s) where
    p : start ≡ start_at s (condition_place (rules_in s) c)
    p = rw z at p'

    q : count ≡ count_at s (condition_place (rules_in s) c)
    q = rw z at q'

    place : words + word_size * start ≡ word_place (rules_in s) (conditions_in s) (start_at s (condition_place (rules_in s) c))
    place = rw (o, w.headed.laid_out.words, p)

    pub text-inside : words + word_size * start + word_size * count ≤ length s
    unfolding condition_from
    text-inside = let e = w.headed.laid_out.whole in let i = (w.conditions c h).inside in omega (arith, place, q)

    text-long : length (text_of (book_of s) c) ≡ count
    unfolding condition_from
    text-long = ap length (text-is s w c h) ∙ length-words s _ _ ∙ sym q

    text-word : (i : ℕ) → i < count → get_or (text_of (book_of s) c) i 0 ≡ u16_at s (words + word_size * start + word_size * i)
    unfolding condition_from
    text-word i l =
        ap (λ (t : List ℕ). get_or t i 0) (text-is s w c h) ∙ get_or-words s _ _ i (omega (arith, q)) ∙ ap (λ (x : ℕ). u16_at s (x + word_size * i)) (sym place)

    module _ (marks free : List ℕ) (f : Freed s marks free) where
      pub freed-within : get_or free c 0 ≤ count
      freed-within = omega (arith, f.upto c h, text-long)

      module _ (i : ℕ) (t : Stopped s (words + word_size * start) (get_or free c 0) count marks i) where
        -- every word before i
        clear-upto : (k : ℕ) → k < i → is_in marks (get_or (text_of (book_of s) c) k 0) ≡ false
        clear-upto k l =
            let m = t.clear.high in
            cases (ltb k (get_or free c 0)) (λ x. f.none c k h (ltb-true k (get_or free c 0) x))
            (λ x. rw (text-word k (omega arith)) (t.clear.passed k (ltb-false k (get_or free c 0) x) l))

        pub freed-on : Freed s marks (set free c i)
        freed-on =
            let l : c < length free = (let a = w.headed.counted.conditions in let b = f.room in omega arith) in
            record {
              room = length-set free c i ∙ f.room;
              upto = λ d j. cases (eqb d c)
                  (λ x. let y : d ≡ c = eqb-true d c x in rw (y, get_or-set_same free c i 0 l) (let m = t.clear.high in omega (arith, text-long)))
                  (λ x. rw (get_or-set_other free c d i 0 (eqb-false d c x)) (f.upto d j));
              none = λ d k j m. cases (eqb d c)
                  (λ x. let y : d ≡ c = eqb-true d c x in rw y (clear-upto k (rw (y, get_or-set_same free c i 0 l) at m)))
                  (λ x. f.none d k j (rw (get_or-set_other free c d i 0 (eqb-false d c x)) at m));
            }

        -- the whole text was read
        pub named_none : i ≡ count → Witnessed (names (text_of (book_of s) c)) marks None
        unfolding is_in
        named_none e =
            record {
              one = λ k. absurd (omega arith);
              none = λ k x j y. let (n, l, z) = named-at x (text_of (book_of s) c) y in
                  let u = clear-upto n (omega (arith, text-long)) in
                  rw (z, lt-ltb x max_marks j) at u;
            }

        -- the word at which the reading stopped is a mark of the set
        pub named-inside : (i ≡ count → ⊥) → words + word_size * start + word_size * i + 2 ≤ length s
        named-inside n = let l : i < count = (let k = t.clear.high in omega arith) in omega (arith, text-inside)

        pub named-one : (m : ℕ) → (i ≡ count → ⊥) → m ≡ u16_at s (words + word_size * start + word_size * i)
            → Witnessed (names (text_of (book_of s) c)) marks (Some m)
        unfolding is_in
        named-one m n e =
            let l : i < count = (let k = t.clear.high in omega arith) in
            let z : get_or (text_of (book_of s) c) i 0 ≡ m = text-word i l ∙ sym e in
            let (y, v) = both (ltb m max_marks) (has_mark marks m) (rw e (t.stops l)) in (
              ltb-true m max_marks y,
              record {
                one = λ k. (rw z at (at_named (text_of (book_of s) c) i (omega (arith, text-long))), v);
                none = λ k. absurd (omega (arith, ltb-true m max_marks y));
              },
            )
