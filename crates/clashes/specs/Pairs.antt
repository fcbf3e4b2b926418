-- The lowest pair of rules that clash, by first rule and then by second. Assumes nothing.
use Rattle.std.specs.Prelude.{◌≡◌, ◌↔◌, Bool, false, ◌&&◌, List, ltb}
use Rattle.std.proofs.Math.Path.{sym}
use Rattle.std.proofs.Common.{◌∙◌, arith}
use Rattle.std.proofs.Math.Bool.{true}
use Prim.Native.Nat.{ℕ, ◌≤◌, ◌<◌}
use Rattle.std.proofs.Math.ListN.{length}
use borrow.Author.Tests.{ltb-true, ltb-false, lt-ltb, le-ltb}
use Rattle.general.specs.Cases.{contra, cases, both, not_so}
use Rattle.general.specs.Below.{some, some_of, some_at, some-none, first, first-is, first_found, first-none}
use Rattle.paper.specs.Limits.{max_rules}
use Rattle.book.specs.Book.{Book, rule_of}
use Rattle.book.specs.Image.{book_of}
use Rattle.book.specs.Read.{rules-count}
use Rattle.book.specs.WellFormed.{WellFormed}
use Rattle.clashes.specs.Clash.{clash, Clashes, clashes-so, NoClash}

-- a pair that clashes, named with the lower rule first
unfoldable pub clashing : Book → ℕ → ℕ → Bool
clashing b p q = ltb p q && clash (rule_of b p) (rule_of b q)

-- the lowest rule that clashes with a later one, or R
unfoldable pub clash_first : Book → ℕ
clash_first b = first (length b.rules) (λ p. some (length b.rules) (clashing b p))

-- the lowest later rule that p clashes with, or R
unfoldable pub clash_second : Book → ℕ → ℕ
clash_second b p = first (length b.rules) (clashing b p)

-- "the lowest pair, by first rule and then by second"
pub record LowestClash (b : Book) (p q : ℕ) : Type 0 where
  pub rising : p < q
  pub inside : q < length b.rules
  pub clashes : Clashes (rule_of b p) (rule_of b q)
  pub first : (x y : ℕ) → x < p → x < y → y < length b.rules → Clashes (rule_of b x) (rule_of b y) → ⊥
  pub second : (y : ℕ) → p < y → y < q → Clashes (rule_of b p) (rule_of b y) → ⊥

module _ (b : Book) where
  pub clashing-of : (p q : ℕ) → p < q → clashing b p q ≡ clash (rule_of b p) (rule_of b q)
  unfolding clashing
  clashing-of p q h = rw (lt-ltb p q h)

  clashing-so : (p q : ℕ) → p < q → Clashes (rule_of b p) (rule_of b q) → clashing b p q ≡ true
  clashing-so p q h c = clashing-of p q h ∙ (clashes-so (rule_of b p) (rule_of b q)).1 c

  clashing-not : (p q : ℕ) → p < q → (Clashes (rule_of b p) (rule_of b q) → ⊥) → clashing b p q ≡ false
  clashing-not p q h n = not_so (λ t. n ((clashes-so (rule_of b p) (rule_of b q)).0 (sym (clashing-of p q h) ∙ t)))

  pub clashing-low : (p q : ℕ) → q ≤ p → clashing b p q ≡ false
  unfolding clashing
  clashing-low p q h = rw (le-ltb p q h)

  pub clashing-is : (p q : ℕ) → clashing b p q ≡ true → (p < q) × (clash (rule_of b p) (rule_of b q) ≡ true)
  unfolding clashing
  clashing-is p q e = let (x, y) = both (ltb p q) (clash (rule_of b p) (rule_of b q)) e in (ltb-true p q x, y)

  pub alone-some : (p : ℕ) → ((q : ℕ) → q < length b.rules → clashing b p q ≡ false) → some (length b.rules) (clashing b p) ≡ false
  alone-some p h = some-none (length b.rules) (clashing b p) h

  pub some_alone : (p : ℕ) → some (length b.rules) (clashing b p) ≡ false → (q : ℕ) → q < length b.rules → clashing b p q ≡ false
  some_alone p e q h = not_so (λ t. contra (some_of (length b.rules) (clashing b p) q h t) e)

  pub clash-fits : clash_first b ≤ length b.rules
  unfolding clash_first
  clash-fits = (first-is (length b.rules) (λ p. some (length b.rules) (clashing b p))).fits

  pub second_fits : (p : ℕ) → clash_second b p ≤ length b.rules
  unfolding clash_second
  second_fits p = (first-is (length b.rules) (clashing b p)).fits

  -- where a pair is named, it is the lowest that clashes
  pub lowest-clash : clash_first b < length b.rules → LowestClash b (clash_first b) (clash_second b (clash_first b))
  unfolding clash_first clash_second
  lowest-clash h =
      let R : ℕ = length b.rules in
      let p : ℕ = first R (λ p. some R (clashing b p)) in
      let f = first-is R (λ p. some R (clashing b p)) in
      let g = first-is R (clashing b p) in
      let (y, i, e) = some_at R (clashing b p) (f.passes h) in
      let q : ℕ = first R (clashing b p) in
      let j : q < R = cases (ltb y q) (λ t. contra e (g.lowest y (ltb-true y q t))) (λ t. omega (arith, ltb-false y q t)) in
      let (k, c) = clashing-is p q (g.passes j) in
      record {
        rising = k;
        inside = j;
        clashes = (clashes-so (rule_of b p) (rule_of b q)).0 c;
        first = λ x y a l m t. contra (clashing-so x y l t) (some_alone x (f.lowest x a) y m);
        second = λ y a l t. contra (clashing-so p y a t) (g.lowest y l);
      }

  -- and no other pair is
  pub clash-found : (p q : ℕ) → LowestClash b p q → (p ≡ clash_first b) × (q ≡ clash_second b p)
  unfolding clash_first clash_second
  clash-found p q l =
      let R : ℕ = length b.rules in
      let c : clashing b p q ≡ true = clashing-so p q l.rising l.clashes in
      let h : p < R = omega (arith, l.rising, l.inside) in (
        first_found R (λ x. some R (clashing b x)) p h (λ x a. alone-some x (λ y m. cases (ltb x y) (λ t. let i = ltb-true x y t in clashing-not x y i (l.first x y a i m))
            (λ t. clashing-low x y (ltb-false x y t)))) (some_of R (clashing b p) q l.inside c),
        first_found R (clashing b p) q l.inside (λ y a. cases (ltb p y) (λ t. let i = ltb-true p y t in clashing-not p y i (l.second y i a)) (λ t. clashing-low p y (ltb-false p y t))) c,
      )

  -- no pair is named exactly if no two rules clash
  pub no-clash : NoClash b ↔ (clash_first b ≡ length b.rules)
  unfolding clash_first
  no-clash =
      let R : ℕ = length b.rules in (
        λ n. sym (first-none R (λ p. some R (clashing b p)) (λ p h. alone-some p (λ q m. cases (ltb p q) (λ t. let i = ltb-true p q t in clashing-of p q i ∙ n p q i m)
            (λ t. clashing-low p q (ltb-false p q t))))),
        λ e p q i m. sym (clashing-of p q i) ∙ some_alone p ((first-is R (λ p. some R (clashing b p))).lowest p (rw e (omega arith))) q m,
      )

-- in a well-formed image no rule of the pair is past the limit
pub second-small : (s : List ℕ) (w : WellFormed s) (p q : ℕ) → q ≡ clash_second (book_of s) p → q ≤ max_rules
second-small s w p q e = let h = w.headed.counted.rules in omega (arith, second_fits (book_of s) p, rules-count s)
