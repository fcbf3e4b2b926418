-- The condition lines as they are read off a book's image, and what each of their writers leaves behind. Assumes nothing.
use Rattle.std.specs.Prelude.{ℕ, ◌+◌, ◌*◌, ◌≤◌, ◌<◌, ◌≡◌, List, [], ◌∷◌, length}
use Rattle.std.proofs.Common.{sym, ◌∙◌, ext_get_or, ne_eqb}
use Rattle.std.proofs.Math.Path.{ap}
use Rattle.paper.specs.Limits.{word_size, and_word, or_word, not_word}
use Rattle.wire.specs.Wire.{u16_at}
use Rattle.book.specs.Image.{condition_place, word_place, start_at, count_at}
use Rattle.general.specs.Lists.{flat, packed, packed-one, each, length-each, get_or-each}
use Rattle.book.specs.Read.{words_from, length-words, get_or-words}
use Rattle.book.specs.Reading.{span_from}
use Rattle.book.specs.declared.Span.{Span}
use Rattle.general.specs.Writing.{Wrote}
use Rattle.derived.specs.WritingLoops.{Upto, upto-fits, upto-more, upto_done}
use Rattle.writing.specs.Text.{ascii, named}
use Rattle.writing.specs.Writers.{Space, Lines, lines-fits, lines_more}
use Rattle.condition_lines.specs.Text.{word_text, condition_line}

-- where R rules and Q conditions stand before the words
unfoldable pub condition_line_at : List ℕ → ℕ → ℕ → ℕ → List ℕ
condition_line_at s R Q c = condition_line c (words_from s (word_place R Q (start_at s (condition_place R c))) (count_at s (condition_place R c)))

pub record ConditionsIn (s : List ℕ) (R Q : ℕ) : Type 0 where
  pub long : condition_place R Q ≤ length s
  pub inside : (c : ℕ) → c < Q → word_place R Q (start_at s (condition_place R c)) + word_size * count_at s (condition_place R c) ≤ length s

-- the words one by one
pub words-each : (s : List ℕ) (at n : ℕ) → words_from s at n ≡ each n (λ i. u16_at s (at + word_size * i))
words-each s at n =
    ext_get_or 0 (words_from s at n) (each n (λ i. u16_at s (at + word_size * i))) (length-words s at n ∙ sym (length-each n (λ i. u16_at s (at + word_size * i))))
    (λ i h. let j : i < n = rw (length-words s at n) at h in get_or-words s at n i j ∙ sym (get_or-each n (λ i. u16_at s (at + word_size * i)) i 0 j))

-- ---- the cases of a word

pub word_and : (w : ℕ) → w ≡ and_word → word_text w ≡ ascii " and"
unfolding word_text
word_and w e = rw e

pub word-or : (w : ℕ) → w ≡ or_word → word_text w ≡ ascii " or"
unfolding word_text
word-or w e = rw e

pub word-not : (w : ℕ) → w ≡ not_word → word_text w ≡ ascii " not"
unfolding word_text
word-not w e = rw e

-- a word that is none of the three operators is a mark
pub word-mark : (w : ℕ) → (w ≡ and_word → ⊥) → (w ≡ or_word → ⊥) → (w ≡ not_word → ⊥) → word_text w ≡ named " " w
unfolding word_text
word-mark w a o n = rw (ne_eqb w and_word a, ne_eqb w or_word o, ne_eqb w not_word n)

-- ---- the words

unfoldable pub word_in : List ℕ → ℕ → ℕ → List ℕ
word_in s from i = u16_at s (from + word_size * i) ∷ []

module _ (s : List ℕ) (from n : ℕ) (room₀ : List ℕ) (at k next : ℕ) (room : List ℕ) (inv : Upto word_text (word_in s from) n room₀ at k next room) where
  text-is : packed word_text (words_from s from n) ≡ packed word_text (flat n (word_in s from))
  unfolding word_in
  text-is = ap (packed word_text) (words-each s from n)

  pub words-done : n ≤ k → Wrote room₀ at (packed word_text (words_from s from n)) next room
  words-done h = rw text-is (upto_done word_text (word_in s from) n room₀ at k next room inv h)

  module _ (h : k < n) (w : ℕ) (e : w ≡ u16_at s (from + word_size * k)) where
    part-is : packed word_text (word_in s from k) ≡ word_text w
    unfolding word_in
    part-is = packed-one word_text (u16_at s (from + word_size * k)) ∙ ap word_text (sym e)

    pub word_fits : Space room₀ at (packed word_text (words_from s from n)) → Space room next (word_text w)
    word_fits f = record { fits = rw part-is at (upto-fits word_text (word_in s from) n room₀ at k next room inv h (rw text-is at f.fits)) }

    pub word_more : (next' : ℕ) (room' : List ℕ) → Wrote room next (word_text w) next' room' → Upto word_text (word_in s from) n room₀ at (k + 1) next' room'
    word_more next' room' v = upto-more word_text (word_in s from) n room₀ at k next room inv next' room' h (rw part-is v)

-- ---- the conditions

module _ (s : List ℕ) (R Q : ℕ) (all : ConditionsIn s R Q) (k : ℕ) (h : k < Q) (words : ℕ) (q : words ≡ condition_place R Q) (x : Span) (e : x ≡ span_from s (condition_place R k)) where
  abbrev from : ℕ
  from = words + word_size * x.start

  pub condition-inside : from + word_size * x.count ≤ length s
  condition-inside = rw (q, e) (all.inside k h)

  line-is : condition_line_at s R Q k ≡ condition_line k (words_from s from x.count)
  unfolding condition_line_at
  line-is = rw (q, e)

  module _ (room₀ : List ℕ) (at next : ℕ) (room : List ℕ) (inv : Lines (condition_line_at s R Q) Q room₀ at k next room) where
    pub condition-fits : Space room₀ at (flat Q (condition_line_at s R Q)) → (from + word_size * x.count ≤ length s) × Space room next (condition_line k (words_from s from x.count))
    condition-fits f = (condition-inside, rw line-is at (lines-fits (condition_line_at s R Q) Q room₀ at k next room inv h f))

    pub condition-more : (next' : ℕ) (room' : List ℕ) → Wrote room next (condition_line k (words_from s from x.count)) next' room'
        → Lines (condition_line_at s R Q) Q room₀ at (k + 1) next' room'
    condition-more next' room' w = lines_more (condition_line_at s R Q) Q room₀ at k next room inv next' room' h (rw line-is w)
