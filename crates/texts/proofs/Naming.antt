-- What the loops keep that note the marks of texts: the rest of the words added to the set gives what all of them give. Assumes nothing.
use mathlib.Core.Path.{◌≡◌, refl, sym, ap, ◌∙◌}
use mathlib.Core.Bool.{Bool, true, false, ◌||◌, or-false}
use mathlib.Core.List.{List, [], ◌∷◌}
use Prim.Native.Nat.{ℕ, ◌+◌, ◌-◌, ◌*◌, ◌/◌, ◌%◌, ◌≤◌, ◌<◌}
use native.Mathlib.Omega.{arith}
use lib.Dec.{eqb}
use lib.ListN.{length, get_or, set, length-set, replicate, length-replicate, get_or-replicate}
use borrow.Author.Tests.{ne_eqb}
use Rattle.paper.specs.Limits.{max_marks, word_size}
use Rattle.general.specs.Below.{some, some-step}
use Rattle.sets.specs.Set.{has, union, only}
use Rattle.sets.specs.Laws.{has-empty}
use Rattle.wire.specs.Wire.{u16_at}
use Rattle.book.specs.Text.{elem}
use Rattle.book.specs.Image.{condition_place}
use Rattle.book.specs.Read.{words_from, words_more, words-none, words-all}
use Rattle.book.specs.Marks.{word_bits, mark_words, has_mark, has-marked}
use Rattle.texts.specs.Noted.{Added, record_words, Named}

-- ---- a word

module _ (named : List ℕ) (w : ℕ) (l : length named ≡ mark_words) where
  pub mark_added : (one word : ℕ) → w < max_marks → one ≡ only (w % word_bits) → word ≡ union (get_or named (w / word_bits) 0) one → Added named (w ∷ []) (set named (w / word_bits) word)
  unfolding elem
  mark_added one word h o e =
      rw (e, o) (record { long = length-set named (w / word_bits) _; names = λ m i. has-marked named w m (omega arith) ∙ rw (or-false (eqb m w)) })

  pub none_added : max_marks ≤ w → Added named (w ∷ []) named
  unfolding elem
  none_added h = record { long = refl; names = λ m i. rw (ne_eqb m w (λ q. omega arith)) (sym (or-false (has_mark named m))) }

-- ---- a text

pub record Noting (s : List ℕ) (at n : ℕ) (first named : List ℕ) (i : ℕ) : Type 0 where
  pub long : length named ≡ length first
  pub same : (m : ℕ) → m < max_marks → (has_mark named m || elem m (words_from s (at + word_size * i) (n - i))) ≡ (has_mark first m || elem m (words_from s at n))

pub noting-starts : (s : List ℕ) (at n : ℕ) (first : List ℕ) → Noting s at n first first 0
noting-starts s at n first = record { long = refl; same = λ m h. rw (words-all s at n) }

gathered : (b v r : Bool) → ((b || (v || false)) || r) ≡ (b || (v || r))
gathered true v r = refl
gathered false true r = refl
gathered false false r = refl

module _ (s : List ℕ) (at n : ℕ) (first named : List ℕ) (i : ℕ) (g : Noting s at n first named i) where
  pub noting-more : (w : ℕ) (after : List ℕ) → i < n → w ≡ u16_at s (at + word_size * i) → Added named (w ∷ []) after → Noting s at n first after (i + 1)
  unfolding elem
  noting-more w after h p a =
      record {
        long = a.long ∙ g.long;
        same = λ m k. let rest = words_from s (at + word_size * (i + 1)) (n - (i + 1)) in
            ap (λ (b : Bool). b || elem m rest) (a.names m k) ∙ gathered (has_mark named m) (eqb m w) (elem m rest)
            ∙ ap (λ (y : ℕ). has_mark named m || (eqb m y || elem m rest)) p ∙ rw (words_more s at n i h) at (g.same m k);
      }

  pub noting-ends : n ≤ i → Added first (words_from s at n) named
  unfolding elem
  noting-ends h = record { long = g.long; names = λ m k. sym (or-false (has_mark named m)) ∙ rw (words-none s at n i h) at (g.same m k) }

-- ---- all texts

pub named-starts : (s : List ℕ) (R Q : ℕ) → Named s R Q 0 (replicate mark_words 0)
unfolding some
named-starts s R Q =
    record {
      wide = length-replicate {A = ℕ} mark_words 0;
      names = λ m h. ap (λ (x : ℕ). has x (m % word_bits)) (get_or-replicate mark_words (m / word_bits) 0 0 (omega arith)) ∙ has-empty (m % word_bits);
    }

pub named_more : (s : List ℕ) (R Q k : ℕ) (named after : List ℕ) → Named s R Q k named → Added named (record_words s (condition_place R Q) (condition_place R k)) after → Named s R Q (k + 1) after
named_more s R Q k named after f a =
    record {
      wide = a.long ∙ f.wide;
      names = λ m h. a.names m h
          ∙ rw (some-step k (λ c. elem m (record_words s (condition_place R Q) (condition_place R c))))
          (ap (λ (b : Bool). b || elem m (record_words s (condition_place R Q) (condition_place R k))) (f.names m h));
    }
