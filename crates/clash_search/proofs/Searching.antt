-- What the search for the pair keeps: rules below p clash with no later one, and p with none below q. Assumes nothing.
use Rattle.std.specs.Prelude.{◌≡◌, Bool, true, false, List, ℕ, ◌+◌, ◌≤◌, ◌<◌, length, ltb}
use Rattle.std.proofs.Common.{◌∙◌, sym, arith}
use borrow.Author.Count.{below_more}
use borrow.Author.Tests.{ltb-true, ltb-false}
use Rattle.general.specs.Cases.{contra, cases, not_so}
use Rattle.general.specs.Below.{some_of, first_found, first-none}
use Rattle.book.specs.Book.{Book, rule_of}
use Rattle.book.specs.Image.{rules_in, marks_in, book_of}
use Rattle.book.specs.Read.{rules-count}
use Rattle.book.specs.WellFormed.{WellFormed}
use Rattle.book.specs.WellRead.{rule-exists}
use Rattle.clashes.specs.Clash.{clash}
use Rattle.clashes.specs.Pairs.{clashing, clash_first, clash_second, clashing-of, clashing-low, alone-some}
use Rattle.clashes.specs.Groups.{clashes_any, Found}
use Rattle.clashes.proofs.Passes.{second-more, second_found, second-none}

module _ (b : Book) where
  -- rules below p clash with no later one
  pub record Searched (rules p : ℕ) : Type 0 where
    pub count : rules ≡ length b.rules
    pub fits : p ≤ rules
    pub none : (x y : ℕ) → x < p → y < rules → clashing b x y ≡ false

  -- p clashes with no rule below q
  pub record Seeking (rules p q : ℕ) : Type 0 where
    pub count : rules ≡ length b.rules
    pub fits : q ≤ rules
    pub later : p < q
    pub none : (y : ℕ) → y < q → clashing b p y ≡ false

  search-start : (marks rules low : ℕ) → Found b marks low → ((p : ℕ) → p < length b.rules → (rule_of b p).target < marks) → rules ≡ length b.rules → Searched rules low
  unfolding clashes_any
  search-start marks rules low g known e =
      let f = g.fits in
      record {
        count = e;
        fits = omega arith;
        none = λ x y h l. cases (ltb x y)
            (λ t. clashing-of b x y (ltb-true x y t) ∙ not_so (λ c. contra (some_of (length b.rules) (λ q. clash (rule_of b x) (rule_of b q)) y (omega arith) c)
            (g.none x h (known x (omega arith)))))
            (λ t. clashing-low b x y (ltb-false x y t));
      }

  module _ (rules p : ℕ) where
    pub seek-start : Searched rules p → p < rules → Seeking rules p (p + 1)
    seek-start g h = record { count = g.count; fits = omega arith; later = omega arith; none = λ y l. clashing-low b p y (omega arith) }

    module _ (q : ℕ) where
      -- the pair at hand does not clash: on to the next
      pub seek-on : (r : Bool) → Seeking rules p q → q < rules → r ≡ clash (rule_of b p) (rule_of b q) → r ≡ false → Seeking rules p (q + 1)
      seek-on r g h e f =
          let l = g.later in
          record { count = g.count; fits = omega arith; later = omega arith; none = second-more b p q l g.none r e f }

      -- the pair at hand clashes: it is the lowest
      pub seek_found : (r : Bool) → Searched rules p → Seeking rules p q → q < rules → r ≡ clash (rule_of b p) (rule_of b q) → r ≡ true
          → (p ≡ clash_first b) × (q ≡ clash_second b p)
      unfolding clash_first
      seek_found r g h i e f =
          let c = g.count in
          let l = h.later in (
            first_found (length b.rules) _ p (omega arith) (λ x a. alone-some b x (λ y m. g.none x y a (omega arith)))
                (some_of (length b.rules) (clashing b p) q (omega arith) (clashing-of b p q l ∙ sym e ∙ f)),
            second_found b p q rules c l i h.none r e f,
          )

      -- no pair of p clashes
      pub seek-end : Searched rules p → p < rules → Seeking rules p q → rules ≤ q → Searched rules (p + 1)
      seek-end g l h i =
          let none : (y : ℕ) → y < rules → clashing b p y ≡ false = λ y m. h.none y (omega arith) in
          record {
            count = g.count;
            fits = omega arith;
            none = λ x y a m. below_more (λ x. clashing b x y ≡ false) p (λ x a. g.none x y a m) (none y m) x a;
          }

    -- no pair clashes
    pub search-end : Searched rules p → rules ≤ p → (rules ≡ clash_first b) × (rules ≡ clash_second b rules)
    unfolding clash_first
    search-end g h =
        let c = g.count in (
          c ∙ first-none (length b.rules) _ (λ x l. alone-some b x (λ y m. g.none x y (omega arith) (omega arith))),
          second-none b rules rules c (λ y m. clashing-low b rules y (omega arith)),
        )

pub search-begin : (s : List ℕ) → WellFormed s → (rules low : ℕ) → rules ≡ rules_in s → Found (book_of s) (marks_in s) low → Searched (book_of s) rules low
search-begin s w rules low e g = search-start (book_of s) (marks_in s) rules low g (λ p h. (rule-exists s w p (rw (rules-count s) at h)).target) (e ∙ sym (rules-count s))
