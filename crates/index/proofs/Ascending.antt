-- What the pass that finds whether orders rise keeps. Assumes nothing.
use mathlib.Core.Path.{◌≡◌, refl, sym, ap, ◌∙◌}
use mathlib.Core.Bool.{true, ◌&&◌}
use mathlib.Core.List.{List, [], ◌∷◌}
use Prim.Native.Nat.{ℕ, suc, ◌+◌, ◌*◌, ◌≤◌, ◌<◌}
use native.Mathlib.Omega.{arith}
use lib.Dec.{eqb, leb}
use lib.ListN.{length, get_or, set, length-set, replicate, length-replicate}
use lib.Seq.{get_or-set_same, get_or-set_other}
use borrow.Author.Tests.{eqb-true, eqb-false, leb-true}
use Rattle.paper.specs.Limits.{max_marks, max_conditions, word_size}
use Rattle.general.specs.Cases.{contra, cases, both, either}
use Rattle.wire.specs.Wire.{u16_at}
use Rattle.order_theory.specs.Rising.{Rising}
use Rattle.book.specs.Text.{elem}
use Rattle.book.specs.Book.{rule_of, text_of}
use Rattle.book.specs.Firing.{refers}
use Rattle.book.specs.Image.{rules_in, conditions_in, rule_place, condition_place, book_of, kind_at, sense_at, number_at, condition_at, target_at}
use Rattle.book.specs.Read.{words_from, length-words, get_or-words}
use Rattle.book.specs.Reading.{span_from}
use Rattle.book.specs.WellFormed.{WellFormed}
use Rattle.book.specs.WellRead.{Opened, span-text}
use Rattle.book.specs.declared.Counts.{Counts}
use Rattle.book.specs.declared.Span.{Span}
use Rattle.rule_order.specs.Rules.{net_of}
use Rattle.rule_order.specs.Nets.{rules_of, count-is, target-says}
use Rattle.rule_order.specs.References.{asked_in, refers-bytes}
use Rattle.index.specs.Ascending.{Targeted, Above, Asking, Awaiting, Reading}

-- ---- how many rules there are up to the last that targets a mark

module _ (s : List ℕ) where
  pub targeted-first : Targeted s 0 (replicate max_marks 0)
  targeted-first = record { size = length-replicate {A = ℕ} max_marks 0; below = λ p h. absurd (omega arith) }

  pub targeted-more : (k : ℕ) (last : List ℕ) → Targeted s k last → (t : ℕ) → (t ≡ (rule_of (book_of s) k).target) × (t < max_marks) → Targeted s (k + 1) (set last t (k + 1))
  targeted-more k last i t e =
      record {
        size = length-set last t (k + 1) ∙ i.size;
        below = λ p l. cases (eqb (rule_of (book_of s) p).target t)
            (λ x. rw (eqb-true (rule_of (book_of s) p).target t x, get_or-set_same last t (k + 1) 0 (rw i.size e.1)) l)
            (λ x. let n = eqb-false (rule_of (book_of s) p).target t x in
            let z : p ≡ k → ⊥ = λ q. n (rw q (sym e.0)) in
            rw (get_or-set_other last t (rule_of (book_of s) p).target (k + 1) 0 n) (i.below p (omega arith)));
      }

  pub targeted-last : (n k : ℕ) (last : List ℕ) → Targeted s k last → n ≤ k → Targeted s n last
  targeted-last n k last i h = record { size = i.size; below = λ p l. i.below p (omega arith) }

-- ---- the highest of them among a text's marks

pub above-first : (last ws : List ℕ) → Above last ws 0 0
above-first last ws = record { each = λ i h. absurd (omega arith) }

module _ (last s : List ℕ) (at count : ℕ) where
  pub above_more : (k n : ℕ) → Above last (words_from s at count) k n → k < count → (w x m : ℕ) → w ≡ u16_at s (at + word_size * k)
      → (w < max_marks → get_or last w 0 ≤ x) → (n ≤ m) × (x ≤ m) → Above last (words_from s at count) (k + 1) m
  above_more k n a b w x m e f g =
      record {
        each = λ i h l. cases (eqb i k)
            (λ y. let z : get_or (words_from s at count) i 0 ≡ w = rw (eqb-true i k y) (get_or-words s at count k b ∙ sym e) in
            let v : get_or last w 0 ≤ x = f (rw z at l) in
            rw z (omega (arith, v, g.1)))
            (λ y. let d = eqb-false i k y in omega (arith, a.each i (omega arith) l, g.0));
      }

  pub above-last : (k n : ℕ) → Above last (words_from s at count) k n → count ≤ k → Above last (words_from s at count) count n
  above-last k n a h = record { each = λ i l. a.each i (omega arith) }

module _ (s : List ℕ) (h : Counts) (o : Opened s h) (c : ℕ) (l : c < conditions_in s) (span : Span) (from : ℕ) (a : span ≡ span_from s (condition_place h.rules c))
    (b : from ≡ condition_place h.rules h.conditions) where
  pub text-above : (last : List ℕ) (n : ℕ) → Above last (words_from s (from + word_size * span.start) span.count) span.count n
      → Above last (text_of (book_of s) c) (length (text_of (book_of s) c)) n
  text-above last n x =
      let z = span-text s h o c l span from a b in
      rw (← z, length-words s (from + word_size * span.start) span.count) x

-- ---- for each condition

module _ (s : List ℕ) (h : Counts) (o : Opened s h) where
  pub opened-conditions : h.conditions ≡ conditions_in s
  opened-conditions = ap (λ (k : Counts). k.conditions) o.counts

  pub opened-few : h.conditions ≤ max_conditions
  opened-few = let l = o.formed.headed.counted.conditions in omega (arith, opened-conditions)

  pub opened-rules : h.rules ≡ rules_in s
  opened-rules = ap (λ (k : Counts). k.rules) o.counts

module _ (s last : List ℕ) where
  pub asking-first : Asking s last 0 (replicate max_conditions 0)
  asking-first = record { size = length-replicate {A = ℕ} max_conditions 0; above = λ c h. absurd (omega arith) }

  pub asking-more : (k : ℕ) (asked : List ℕ) (n : ℕ) → Asking s last k asked → k < max_conditions
      → Above last (text_of (book_of s) k) (length (text_of (book_of s) k)) n → Asking s last (k + 1) (set asked k n)
  asking-more k asked n a h t =
      record {
        size = length-set asked k n ∙ a.size;
        above = λ c l. cases (eqb c k)
            (λ x. rw (eqb-true c k x, get_or-set_same asked k n 0 (rw a.size h)) t)
            (λ x. let y = eqb-false c k x in rw (get_or-set_other asked k c n 0 y) (a.above c (omega arith)));
      }

  pub asking-last : (n k : ℕ) (asked : List ℕ) → Asking s last k asked → n ≤ k → Asking s last n asked
  asking-last n k asked a h = record { size = a.size; above = λ c l. a.above c (omega arith) }

-- ---- a rule, and the pass over the rules

module _ (s last : List ℕ) (r : ℕ) where
  pub awaiting-none : kind_at s (rule_place r) < 2 → Awaiting s last r
  awaiting-none l m b e = absurd (omega arith)

  pub awaiting-mark : (m : ℕ) → m ≡ number_at s (rule_place r) → leb (get_or last m 0) r ≡ true → Awaiting s last r
  awaiting-mark m e l n b q = rw (q ∙ sym e) (leb-true (get_or last m 0) r l)

  pub reading-none : sense_at s (rule_place r) < 1 → Reading s last r
  reading-none l m b e = absurd (omega arith)

  pub reading-text : (c : ℕ) → c ≡ condition_at s (rule_place r) → leb (get_or last c 0) r ≡ true → Reading s last r
  reading-text c e l n b q = rw (q ∙ sym e) (leb-true (get_or last c 0) r l)

elem_at : (m : ℕ) (ws : List ℕ) → elem m ws ≡ true → (i : ℕ) × (i < length ws) × (get_or ws i 0 ≡ m)
unfolding elem
elem_at m [] e = contra e refl
elem_at m (w ∷ ws) e =
    either (eqb m w) (elem m ws) e (λ x. (0, omega arith, sym (eqb-true m w x))) (λ x. let (i, h, y) = elem_at m ws x in (suc i, omega arith, y))

-- none of the first k rules refers to what a rule from itself on targets
pub record Lifting (s last : List ℕ) (k : ℕ) : Type 0 where
  pub each : (r m : ℕ) → r < k → r < rules_in s → m < max_marks → refers (book_of s) r m ≡ true → get_or last m 0 ≤ r

pub lifting-first : (s last : List ℕ) → Lifting s last 0
lifting-first s last = record { each = λ r m h. absurd (omega arith) }

module _ (s last asked : List ℕ) (g : WellFormed s) (a : Asking s last (conditions_in s) asked) where
  -- what a rule refers to, by its trigger or by its text
  refers-low : (r m : ℕ) → r < rules_in s → m < max_marks → Awaiting s last r → Reading s asked r → refers (book_of s) r m ≡ true → get_or last m 0 ≤ r
  refers-low r m h k w t x =
      either (leb 2 (kind_at s (rule_place r)) && eqb m (number_at s (rule_place r))) (leb 1 (sense_at s (rule_place r)) && elem m (text_of (book_of s) (condition_at s (rule_place r))))
      (sym (refers-bytes s r m h) ∙ x)
      (λ y. let (u, v) = both (leb 2 (kind_at s (rule_place r))) (eqb m (number_at s (rule_place r))) y in
      w m (leb-true 2 (kind_at s (rule_place r)) u) (eqb-true m (number_at s (rule_place r)) v))
      (λ y. let c : ℕ = condition_at s (rule_place r) in
      let (u, v) = both (leb 1 (sense_at s (rule_place r))) (elem m (text_of (book_of s) c)) y in
      let l : 1 ≤ sense_at s (rule_place r) = leb-true 1 (sense_at s (rule_place r)) u in
      let (i, b, q) = elem_at m (text_of (book_of s) c) v in
      let z : get_or last (get_or (text_of (book_of s) c) i 0) 0 ≤ get_or asked c 0 = (a.above c (asked_in s r g h c l refl)).each i b (rw q k) in
      omega (arith, rw q at z, t c l refl))

  pub lifting-more : (k : ℕ) → Lifting s last k → Awaiting s last k → Reading s asked k → Lifting s last (k + 1)
  lifting-more k i w t =
      record {
        each = λ r m h l j x. cases (eqb r k)
            (λ y. let q = eqb-true r k y in refers-low r m l j (rw q w) (rw q t) x)
            (λ y. let n = eqb-false r k y in i.each r m (omega arith) l j x);
      }

  pub lifting-last : (n k : ℕ) → n ≡ rules_in s → Targeted s n last → Lifting s last k → n ≤ k → (stage : ℕ) → Rising (rules_of s stage)
  unfolding net_of
  lifting-last n k e t i l stage p q c d x =
      let u : p < rules_in s = rw (count-is s stage) at c.0 in
      let v : q < rules_in s = rw (count-is s stage) at d.0 in
      let y : p < get_or last (rule_of (book_of s) p).target 0 = t.below p (omega arith) in
      let (b, f) = target-says s g p (target_at s (rule_place p)) u refl in
      let z : get_or last (rule_of (book_of s) p).target 0 ≤ q = i.each q (rule_of (book_of s) p).target (omega arith) v (rw b at f) x in
      omega arith
