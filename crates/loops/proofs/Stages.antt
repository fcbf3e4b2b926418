-- What the loop that gathers the stages with a search of their own keeps, and what the loop over the stages keeps. Assumes nothing.
use mathlib.Core.Path.{◌≡◌, refl, sym, ap, ◌∙◌}
use mathlib.Core.Bool.{Bool, true, false, ◌&&◌, ◌||◌, or-false}
use mathlib.Core.List.{List}
use Rattle.std.specs.Prelude.{Option, None}
use Prim.Native.Nat.{ℕ, ◌+◌, ◌≤◌, ◌<◌}
use native.Mathlib.Omega.{arith}
use lib.Dec.{eqb, leb, ltb}
use lib.ListN.{length}
use borrow.Author.Tests.{eqb-true, ne_eqb, lt-ltb, le-ltb, ltb-true, ltb-false}
use Rattle.general.specs.Cases.{cases, not_so}
use Rattle.general.specs.Below.{found, some, some-step}
use Rattle.sets.specs.Set.{has, only, collect}
use Rattle.sets.specs.Laws.{has-empty, has-union, has-only, has-collect, ext}
use Rattle.book.specs.Book.{Book, rule_of}
use Rattle.book.specs.Image.{stages_in, rules_in, rule_place, trigger_from, rule_from, book_of, kind_at, sense_at, number_at, condition_at}
use Rattle.book.specs.Read.{rules-count, rule-read}
use Rattle.book.specs.WellFormed.{WellFormed}
use Rattle.book.specs.WellRead.{Opened}
use Rattle.book.specs.declared.Counts.{Counts}
use Rattle.loops.specs.Gathering.{with_stage, lower}
use Rattle.loop_search.specs.Places.{stage_place, lesser, loop_place, found-none, lesser-one, lesser-fits, lesser-left, lesser-right}
use Rattle.loop_search.specs.Searching.{completes, search_rule, searches, searching, searching-has, searches-below, none-search, one-searches, completable, targets-exist}
use Rattle.loop_search.specs.Searching.{searched_below, searched-on, searched-past, searched-last, common-last, no-stages}
use Rattle.loop_chances.specs.Chances.{may_loop, no-chance}
use Rattle.loop_search.proofs.Reading.{asks-byte}

-- ---- one rule

completes-byte : (k n stage : ℕ) → completes stage (trigger_from k n) ≡ (eqb k 1 && eqb n stage)
unfolding trigger_from completes
completes-byte k n stage =
    cases (eqb k 0) (λ e. rw (e, ne_eqb k 1 (λ z. omega (arith, eqb-true k 0 e))))
    (λ e. cases (eqb k 1) (λ f. rw (e, f)) (λ f. rw (e, f) (cases (eqb k 2) (λ g. rw g) (λ g. rw g))))

shift : (x y z : Bool) → ((x && y) && z) ≡ ((x && z) && y)
shift true true true = refl
shift true true false = refl
shift true false true = refl
shift true false false = refl
shift false y z = refl

stage-bit : (s : List ℕ) (set r stage : ℕ) → has (with_stage s set r) stage ≡ (has set stage || search_rule (rule_from s (rule_place r)) stage)
unfolding with_stage rule_from
stage-bit s set r stage =
    let k : ℕ = kind_at s (rule_place r) in
    let n : ℕ = number_at s (rule_place r) in
    let g : ℕ = sense_at s (rule_place r) in
    rw (completes-byte k n stage, asks-byte g (condition_at s (rule_place r)), shift (eqb k 1) (eqb n stage) (leb 1 g))
    (cases (eqb k 1 && leb 1 g)
    (λ e. rw e (has-union set (only n) stage ∙ rw (has-only n stage)))
    (λ e. rw e (sym (or-false (has set stage)))))

-- ---- the loop over the rules: those of the first r are in the set

pub record Gathered (s : List ℕ) (set r : ℕ) : Type 0 where
  pub within : r ≤ rules_in s
  pub holds : (stage : ℕ) → has set stage ≡ some r (λ q. search_rule (rule_of (book_of s) q) stage)

pub gathered-first : (s : List ℕ) (set : ℕ) → set ≡ 0 → Gathered s set 0
unfolding some
gathered-first s set e = record { within = omega arith; holds = λ stage. rw e (has-empty stage) }

pub gathered-more : (s : List ℕ) (n set r next : ℕ) → n ≡ rules_in s → Gathered s set r → r < n → next ≡ with_stage s set r → Gathered s next (r + 1)
gathered-more s n set r next m g l e =
    let h : r < rules_in s = omega arith in
    record { within = omega arith; holds = λ stage. rw (e, stage-bit s set r stage, some-step, g.holds stage, rule-read s r h) }

pub gathered-last : (s : List ℕ) (n set r : ℕ) → WellFormed s → n ≡ rules_in s → Gathered s set r → n ≤ r → set ≡ searching (book_of s)
unfolding searching searches
gathered-last s n set r w m g h =
    let i = g.within in
    let z : r ≡ length (book_of s).rules = let c = rules-count s in omega arith in
    let b = book_of s in
    ext set (collect b.stages (searches b))
    (λ e. g.holds e ∙ ap (λ (k : ℕ). some k (λ q. search_rule (rule_of b q) e)) z
    ∙ sym (has-collect b.stages (searches b) e ∙ cases (ltb e b.stages) (λ t. rw t)
    (λ t. rw t (sym (not_so (λ y. absurd (omega (arith, searches-below b (completable s w) e y, ltb-false e b.stages t))))))))

-- ---- the lower of two places

pub lower-found : (k x y : ℕ) → lower (found k x) (found k y) ≡ found k (lesser x y)
lower-found k x y =
    cases (ltb x k)
    (λ a. cases (ltb y k)
    (λ b. rw (a, b, lt-ltb (lesser x y) k (let f = lesser-fits x y in omega (arith, f.0, ltb-true x k a))))
    (λ b. rw (a, b, lesser-left x y (omega (arith, ltb-true x k a, ltb-false y k b)), a)))
    (λ a. cases (ltb y k)
    (λ b. rw (a, b, lesser-right x y (omega (arith, ltb-false x k a, ltb-true y k b)), b))
    (λ b. rw (a, b, le-ltb (lesser x y) k (lesser-one (λ p. k ≤ p) x y (λ i. ltb-false x k a) (λ i. ltb-false y k b)))))

-- ---- the loop over the stages

none-below : (b : Book) → b.marks ≡ searched_below b 0
unfolding searched_below
none-below b = refl

pub record Placed (s : List ℕ) (h : Counts) (set : ℕ) (least : Option ℕ) (stage : ℕ) : Type 0 where
  pub opened : Opened s h
  pub gathered : set ≡ searching (book_of s)
  pub within : stage ≤ stages_in s
  pub place : least ≡ found (book_of s).marks (searched_below (book_of s) stage)

stages-many : (s : List ℕ) (h : Counts) → Opened s h → h.stages ≡ stages_in s
stages-many s h o = ap (λ (c : Counts). c.stages) o.counts

module _ (s : List ℕ) (h : Counts) (set : ℕ) where
  pub placed_first : Opened s h → set ≡ searching (book_of s) → Placed s h set None 0
  placed_first o e = record { opened = o; gathered = e; within = omega arith; place = found-none (book_of s).marks (searched_below (book_of s) 0) (none-below (book_of s)) }

  module _ (least : Option ℕ) (stage : ℕ) (g : Placed s h set least stage) (i : stage < h.stages) (x : Bool) (f : x ≡ has set stage) where
    below-stages : stage < stages_in s
    below-stages = omega (arith, stages-many s h g.opened)

    searched : searches (book_of s) stage ≡ x
    unfolding book_of
    searched = sym (searching-has (book_of s) stage below-stages) ∙ rw (← g.gathered) (sym f)

    pub placed-searched : (place next out : Option ℕ) → x ≡ true → place ≡ found (book_of s).marks (stage_place (book_of s) stage) → next ≡ lower least place → out ≡ next → Placed s h set out (stage + 1)
    placed-searched place next out t p n q =
        let b = below-stages in
        record {
          opened = g.opened;
          gathered = g.gathered;
          within = omega arith;
          place = q ∙ n
              ∙ rw (p, g.place)
              (lower-found (book_of s).marks (searched_below (book_of s) stage) (stage_place (book_of s) stage) ∙ ap (found (book_of s).marks) (searched-on (book_of s) stage (searched ∙ t)));
        }

    pub placed_past : (out : Option ℕ) → x ≡ false → out ≡ least → Placed s h set out (stage + 1)
    placed_past out t q =
        let b = below-stages in
        record {
          opened = g.opened;
          gathered = g.gathered;
          within = omega arith;
          place = q ∙ g.place ∙ ap (found (book_of s).marks) (searched-past (book_of s) stage (searched ∙ t));
        }

  pub placed-last : (least : Option ℕ) (stage : ℕ) → (set ≡ 0 → ⊥) → Placed s h set least stage → h.stages ≤ stage → least ≡ found (book_of s).marks (loop_place (book_of s))
  unfolding book_of
  placed-last least stage n g l =
      let i = g.within in
      let w = g.opened.formed in
      let z : stage ≡ stages_in s = omega (arith, stages-many s h g.opened) in
      let (k, j, e) = one-searches (book_of s) (λ y. n (g.gathered ∙ y)) in
      g.place ∙ ap (found (book_of s).marks) (rw z (searched-last (book_of s) (completable s w) (targets-exist s w) k j e))

-- ---- the returns of the whole

module _ (s : List ℕ) (h : Counts) (o : Opened s h) where
  pub place_none : h.stages ≡ 0 → None ≡ found (book_of s).marks (loop_place (book_of s))
  unfolding book_of
  place_none z = found-none (book_of s).marks (loop_place (book_of s)) (no-stages (book_of s) (sym (stages-many s h o) ∙ z))

  pub place_calm : (x : Bool) → x ≡ may_loop (book_of s) → x ≡ false → None ≡ found (book_of s).marks (loop_place (book_of s))
  unfolding book_of
  place_calm x e t = found-none (book_of s).marks (loop_place (book_of s)) (sym (no-chance (book_of s) o.formed.headed.counted.marks (targets-exist s o.formed) (sym e ∙ t)))

  pub place_common : (set : ℕ) (p : Option ℕ) (b : Bool) → (h.stages ≡ 0 → ⊥) → set ≡ searching (book_of s) → b ≡ eqb set 0 → b ≡ true
      → p ≡ found (book_of s).marks (stage_place (book_of s) h.stages) → p ≡ found (book_of s).marks (loop_place (book_of s))
  unfolding book_of
  place_common set p b n e y z q =
      let m = stages-many s h o in
      q ∙ ap (found (book_of s).marks) (rw m (common-last (book_of s) (completable s o.formed) (omega arith) (none-search (book_of s) (sym e ∙ eqb-true set 0 (sym y ∙ z)))))
