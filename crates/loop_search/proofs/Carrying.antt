-- What the rules carry, what a pass over them keeps, and that passes come to an end. Assumes nothing.
use mathlib.Core.Path.{◌≡◌, refl, sym, ◌∙◌}
use mathlib.Core.Logic.{◌⊎◌, inl, inr, ◌≢◌}
use mathlib.Core.Bool.{Bool, true, false, not, ◌&&◌, and-false}
use mathlib.Core.List.{List}
use Prim.Native.Nat.{ℕ, zero, suc, ◌+◌, ◌*◌, ◌/◌, ◌%◌, ◌≤◌, ◌<◌}
use native.Mathlib.Omega.{arith}
use lib.Dec.{eqb, leb, ltb}
use lib.ListN.{length, get_or, set, length-set, replicate, length-replicate}
use lib.Seq.{get_or-set_same, get_or-set_other}
use borrow.Author.Tests.{eqb-true, eqb-false, eq-eqb, ne_eqb, leb-true, lt-ltb, le-ltb, not-true}
use Rattle.paper.specs.Limits.{max_marks}
use Rattle.general.specs.Cases.{contra, cases, both, either, or_left, or_right, not_so, lt-suc}
use Rattle.general.specs.Below.{tally}
use Rattle.general.specs.Scan.{ltb-more}
use Rattle.general.specs.Tables.{zeros-at}
use Rattle.sets.specs.Set.{has, union, only, minus}
use Rattle.sets.specs.Laws.{has-union, has-only, has-empty}
use Rattle.book.specs.Text.{elem}
use Rattle.book.specs.Book.{text_of}
use Rattle.book.specs.Firing.{refers}
use Rattle.book.specs.Image.{rules_in, rule_place, book_of, kind_at, sense_at, number_at, condition_at}
use Rattle.book.specs.Marks.{word_bits, has_mark}
use Rattle.book.specs.WellFormed.{WellFormed}
use Rattle.rule_order.specs.References.{asked_in, refers-bytes}
use Rattle.loop_search.specs.Spreading.{reaches, Begun, AskedAll, from_trigger, from_condition, carried, target_of, Carried, missing}

-- ---- the sources at the start: the first i are reached from themselves

pub record Beginning (base : ℕ) (reached : List ℕ) (i : ℕ) : Type 0 where
  pub room : length reached ≡ max_marks
  pub within : i ≤ word_bits
  pub each : (x d : ℕ) → reaches reached x d ≡ (ltb d i && eqb x (base + d))

pub beginning-first : (base : ℕ) → Beginning base (replicate max_marks 0) 0
beginning-first base =
    record { room = length-replicate {A = ℕ} max_marks 0; within = omega arith; each = λ x d. rw (zeros-at max_marks x, le-ltb d 0 (omega arith)) (has-empty d) }

module _ (base : ℕ) (reached : List ℕ) (i : ℕ) (g : Beginning base reached i) where
  pub beginning-more : (v : ℕ) → base + word_bits ≤ max_marks → i < word_bits → v ≡ only i → Beginning base (set reached (base + i) v) (i + 1)
  beginning-more v h l e =
      let r = g.room in
      record {
        room = length-set reached (base + i) v ∙ r;
        within = omega arith;
        each = λ x d. cases (eqb x (base + i))
            (λ t. let q : x ≡ base + i = eqb-true x (base + i) t in
            rw (q, get_or-set_same reached (base + i) v 0 (omega arith), e, has-only i d)
            (cases (eqb i d)
            (λ u. let z : i ≡ d = eqb-true i d u in rw (u, lt-ltb d (i + 1) (omega arith), eq-eqb (base + i) (base + d) (omega arith)))
            (λ u. let z : i ≢ d = eqb-false i d u in rw (u, ne_eqb (base + i) (base + d) (λ y. z (omega arith))) (sym (and-false (ltb d (i + 1)))))))
            (λ t. rw (get_or-set_other reached (base + i) x v 0 (eqb-false x (base + i) t)) (g.each x d
            ∙ cases (eqb d i)
            (λ u. let z : d ≡ i = eqb-true d i u in rw (z, t) (and-false (ltb i i) ∙ sym (and-false (ltb i (i + 1)))))
            (λ u. rw (ltb-more d i (eqb-false d i u)))));
      }

  pub beginning-last : word_bits ≤ i → Begun base reached
  beginning-last l = let w = g.within in let z : i ≡ word_bits = omega arith in record { room = g.room; each = λ x d. rw (← z) (g.each x d) }

-- ---- what one rule carries

module _ (s reached asked : List ℕ) (r from t d : ℕ) (p : from ≡ carried s reached asked r) (q : t ≡ target_of s r) (e : d ≡ minus from (get_or reached t 0)) where
  over : d ≡ minus (carried s reached asked r) (get_or reached (target_of s r) 0)
  over = e ∙ rw (p, q)

  pub carried_none : d ≡ 0 → Carried s reached asked r reached false
  carried_none z = record { new = λ y. contra y refl; taken = λ y. contra y refl; none = λ y. sym over ∙ z; left = λ y. refl }

  pub carried-more : (v : ℕ) → (d ≡ 0 → ⊥) → v ≡ union (get_or reached t 0) from → Carried s reached asked r (set reached t v) true
  carried-more v n f = record { new = λ y z. n (over ∙ z); taken = λ y. rw (f, p, q); none = λ y. contra refl y; left = λ y. contra refl y }

-- ---- what it carries is what reaches the marks that it refers to

module _ (s start reached asked : List ℕ) (w : WellFormed s) (r : ℕ) (h : r < rules_in s) (g : AskedAll s start asked) where
  pub carried_gives : (i : ℕ) → has (carried s reached asked r) i ≡ true → (x : ℕ) × (refers (book_of s) r x ≡ true) × ((reaches reached x i ≡ true) ⊎ (reaches start x i ≡ true))
  unfolding from_trigger from_condition
  carried_gives i e =
      either (has (from_trigger s reached r) i) (has (from_condition s asked r) i) (sym (has-union (from_trigger s reached r) (from_condition s asked r) i) ∙ e)
      (λ t. cases (leb 2 (kind_at s (rule_place r)))
      (λ k. let m : ℕ = number_at s (rule_place r) in (m, rw (refers-bytes s r m h, k, eq-eqb m m refl), inl (rw k at t))) (λ k. contra (rw k at t) (has-empty i)))
      (λ t. cases (leb 1 (sense_at s (rule_place r)))
      (λ k. let c : ℕ = condition_at s (rule_place r) in
      let (x, m, v) = (g.each c (asked_in s r w h c (leb-true 1 (sense_at s (rule_place r)) k) refl)).gives i (rw k at t) in
      (x, rw (refers-bytes s r x h, k, m) (or_right (leb 2 (kind_at s (rule_place r)) && eqb x (number_at s (rule_place r))) true refl), inr v)) (λ k. contra (rw k at t) (has-empty i)))

module _ (s reached asked : List ℕ) (w : WellFormed s) (r : ℕ) (h : r < rules_in s) (g : AskedAll s reached asked) where
  pub carried-takes : (x i : ℕ) → refers (book_of s) r x ≡ true → reaches reached x i ≡ true → has (carried s reached asked r) i ≡ true
  unfolding from_trigger from_condition
  carried-takes x i e t =
      let k : ℕ = kind_at s (rule_place r) in
      let n : ℕ = number_at s (rule_place r) in
      let u : ℕ = sense_at s (rule_place r) in
      let c : ℕ = condition_at s (rule_place r) in
      has-union (from_trigger s reached r) (from_condition s asked r) i
      ∙ either (leb 2 k && eqb x n) (leb 1 u && elem x (text_of (book_of s) c)) (sym (refers-bytes s r x h) ∙ e)
      (λ y. let (a, b) = both (leb 2 k) (eqb x n) y in
      or_left (has (from_trigger s reached r) i) (has (from_condition s asked r) i) (rw (a, ← eqb-true x n b) t))
      (λ y. let (a, b) = both (leb 1 u) (elem x (text_of (book_of s) c)) y in
      or_right (has (from_trigger s reached r) i) (has (from_condition s asked r) i) (rw a ((g.each c (asked_in s r w h c (leb-true 1 u a) refl)).takes x i b t)))

-- ---- fewer digits are missing

tally-mono : (k : ℕ) (f g : ℕ → Bool) → ((p : ℕ) → p < k → f p ≡ true → g p ≡ true) → tally k f ≤ tally k g
unfolding tally
tally-mono zero f g h = omega arith
tally-mono (suc k) f g h =
    let i = tally-mono k f g (λ p l. h p (omega arith)) in
    cases (f k) (λ x. rw (x, h k (omega arith) x) (omega arith)) (λ x. cases (g k) (λ y. rw (x, y) (omega arith)) (λ y. rw (x, y) (omega arith)))

tally-fewer : (k : ℕ) (f g : ℕ → Bool) (r : ℕ) → r < k → f r ≡ false → g r ≡ true → ((p : ℕ) → p < k → f p ≡ true → g p ≡ true) → tally k f < tally k g
unfolding tally
tally-fewer zero f g r l x y h = absurd (omega arith)
tally-fewer (suc k) f g r l x y h =
    lt-suc l (λ e. let i = tally-mono k f g (λ p m. h p (omega arith)) in rw (rw e at x, rw e at y) (omega arith))
    (λ m. let i = tally-fewer k f g r m x y (λ p n. h p (omega arith)) in
    cases (f k) (λ u. rw (u, h k (omega arith) u) (omega arith)) (λ u. cases (g k) (λ v. rw (u, v) (omega arith)) (λ v. rw (u, v) (omega arith))))

-- a word with one digit more, and none less
pub missing-less : (reached : List ℕ) (t v i : ℕ) → length reached ≡ max_marks → t < max_marks → i < word_bits → reaches reached t i ≡ false → has v i ≡ true
    → ((d : ℕ) → reaches reached t d ≡ true → has v d ≡ true) → missing (set reached t v) < missing reached
unfolding missing
missing-less reached t v i l h j x y k =
    let p : ℕ = t * word_bits + i in
    let a : p / word_bits ≡ t = omega arith in
    let b : p % word_bits ≡ i = omega arith in
    tally-fewer (max_marks * word_bits) (λ p. not (has_mark (set reached t v) p)) (λ p. not (has_mark reached p)) p (omega arith)
    (rw (a, b, get_or-set_same reached t v 0 (omega arith), y)) (rw (a, b, x))
    (λ q m e. cases (eqb (q / word_bits) t)
    (λ z. let f : q / word_bits ≡ t = eqb-true (q / word_bits) t z in
    rw (f, not_so (λ u. contra (k (q % word_bits) u) (not-true (has v (q % word_bits)) (rw (f, get_or-set_same reached t v 0 (omega arith)) at e)))))
    (λ z. rw (get_or-set_other reached t (q / word_bits) v 0 (eqb-false (q / word_bits) t z)) at e))
