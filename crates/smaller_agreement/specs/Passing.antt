-- A smaller book has no clash and no loop, so the check passes that of a fit chart. Assumes nothing.
use Rattle.std.specs.Prelude.{ℕ, zero, suc, ◌≤◌, ◌<◌, ◌≡◌, Bool, false, ◌||◌, eqb, get_or}
use Rattle.std.proofs.Math.Path.{refl}
use Rattle.std.proofs.Common.{◌∙◌, arith, eqb-true}
use Rattle.std.proofs.Math.Bool.{true}
use mathlib.Core.List.{List, [], ◌∷◌, ◌++◌}
use Rattle.std.proofs.Math.ListN.{length}
use Rattle.paper.specs.Limits.{max_events}
use Rattle.general.specs.Cases.{contra, cases, either, not_so}
use Rattle.general.specs.Lists.{packed, packed_all, All, all-at, at_all, all_map}
use Rattle.flat_chart.specs.Chart.{Fit}
use Rattle.flat_chart.specs.Flat.{FlatChart}
use Rattle.graph.specs.Flat.{Marking}
use Rattle.book.specs.Text.{elem}
use Rattle.book.specs.Book.{rule_of, text_of, no_rule}
use Rattle.book.specs.Image.{book_of}
use Rattle.book.specs.ImageOf.{image_of, book-of-image}
use Rattle.book.specs.Firing.{refers, awaits, reads}
use Rattle.book.specs.declared.Rule.{Rule}
use Rattle.book.specs.declared.Sense.{Sense}
use Rattle.book.specs.declared.Sense.TheVariants.{NoCondition, AsWritten, Negated}
use Rattle.order_theory.specs.Order.{NoLoop}
use Rattle.order_theory.specs.Running.{turn}
use Rattle.rule_order.specs.Rules.{net_of}
use Rattle.clashes.specs.Clash.{clash, Apart, stages, written, negated, clashes-so, NoClash}
use Rattle.judge.specs.Checking.{BookPasses}
use Rattle.derived.specs.Derived.{on, opens, closes, derived_rules, derived_book}
use Rattle.smaller.specs.Staying.{stays, new_mark}
use Rattle.smaller.specs.Smaller.{smaller_clauses, smaller_text, has_text, new_condition, restated, reduced, smaller_rules, smaller_book}
use Rattle.smaller.specs.Numbering.{new-stage, new-one}
use Rattle.smaller.specs.Numbers.{smaller-text}
use Rattle.smaller.specs.Formed.{of-kinds, Names, names-less, spoken-names, There, reduced-fewer}
use Rattle.smaller.proofs.Formed.{clauses-there, smaller-well}
use Rattle.agreement.specs.Passing.{derived-calm}

all-elem : (P : ℕ → Type 0) (l : List ℕ) → All P l → (k : ℕ) → elem k l ≡ true → P k
unfolding elem
all-elem P [] a k e = contra e refl
all-elem P (x ∷ l) a k e = either (eqb k x) (elem k l) e (λ q. rw (eqb-true k x q) a.0) (all-elem P l a.1 k)

-- ---- what holds of every two elements, the earlier first

module _ {A : Type 0} (R : A → A → Type 0) where
  abbrev Pairs : List A → Type 0
  Pairs [] = Unit {0}
  Pairs (x ∷ l) = All (R x) l × Pairs l

  at-pairs : (d : A) (l : List A) → ((p q : ℕ) → p < q → q < length l → R (get_or l p d) (get_or l q d)) → Pairs l
  at-pairs d [] h = tt
  at-pairs d (x ∷ l) h = (at_all (R x) d l (λ r i. h zero (suc r) (omega arith) (omega arith)), at-pairs d l (λ p q i j. h (suc p) (suc q) (omega arith) (omega arith)))

  pairs-at : (d : A) (l : List A) → Pairs l → (p q : ℕ) → p < q → q < length l → R (get_or l p d) (get_or l q d)
  pairs-at d [] a p q i j = absurd (omega arith)
  pairs-at d (x ∷ l) a zero zero i j = absurd (omega arith)
  pairs-at d (x ∷ l) a zero (suc q) i j = all-at (R x) d l a.0 q (omega arith)
  pairs-at d (x ∷ l) a (suc p) zero i j = absurd (omega arith)
  pairs-at d (x ∷ l) a (suc p) (suc q) i j = pairs-at d l a.1 p q (omega arith) (omega arith)

-- through parts of at most one element
module _ {A B : Type 0} (f : A → List B) (few : (x : A) → length (f x) ≤ 1) (R : A → A → Type 0) (S : B → B → Type 0) where
  packed-pairs : ((x y : A) → R x y → All (λ a. All (S a) (f y)) (f x)) → (l : List A) → Pairs R l → Pairs S (packed f l)
  unfolding packed
  packed-pairs so [] a = tt
  packed-pairs so (x ∷ l) a = go (f x) (few x) (so x) (packed-pairs so l a.1)
    where
      go : (k : List B) → length k ≤ 1 → ((y : A) → R x y → All (λ b. All (S b) (f y)) k) → Pairs S (packed f l) → Pairs S (k ++ packed f l)
      go [] i h p = p
      go (b ∷ []) i h p = (packed_all f (R x) (S b) (λ y r. (h y r).0) l a.0, p)
      go (b ∷ (b' ∷ k)) i h p = absurd (omega arith)

module _ (c : FlatChart) (m : Marking) where
  abbrev n : ℕ
  n = c.count

  -- ---- no clash

  -- the rule x is what is left of r
  record Left (r x : Rule) : Type 0 where
    stay : stays c m r.target ≡ true
    trigger : x.trigger ≡ r.trigger
    effect : x.effect ≡ r.effect
    target : x.target ≡ new_mark c m r.target
    as_written : (k : ℕ) → r.sense ≡ AsWritten k → has_text c m k ≡ true → x.sense ≡ AsWritten (new_condition c m k)
    negative : (k : ℕ) → r.sense ≡ Negated k → (has_text c m k ≡ true) × (x.sense ≡ Negated (new_condition c m k))

  restated-left : (r : Rule) (s : Sense) → r.sense ≡ s → stays c m r.target ≡ true → All (Left r) (restated c m r s)
  unfolding restated
  restated-left r NoCondition e t =
      (record { stay = t; trigger = refl; effect = refl; target = refl; as_written = λ k q h. cc; negative = λ k q. (cc, cc) }, tt)
  restated-left r (AsWritten j) e t =
      (record { stay = t; trigger = refl; effect = refl; target = refl; as_written = λ k q h. let z : j ≡ k = cc in rw (z, h); negative = λ k q. (cc, cc) }, tt)
  restated-left r (Negated j) e t =
      cases (has_text c m j)
      (λ u. rw u (record { stay = t; trigger = refl; effect = refl; target = refl; as_written = λ k q h. cc; negative = λ k q. let z : j ≡ k = cc in (rw z at u, rw z) }, tt))
      (λ u. rw u tt)

  reduced-left : (r : Rule) → All (Left r) (reduced c m r)
  unfolding reduced
  reduced-left r = cases (stays c m r.target) (λ t. rw t (restated-left r r.sense refl t)) (λ t. rw t tt)

  module _ (r s x y : Rule) (p : Left r x) (q : Left s y) where
    left-apart : Apart r s → Apart x y
    left-apart (stages d e f g z) = stages d e (p.trigger ∙ f) (q.trigger ∙ g) z
    left-apart (written k f g) = let (t, u) = q.negative k g in written (new_condition c m k) (p.as_written k f t) u
    left-apart (negated k f g) = let (t, u) = p.negative k f in negated (new_condition c m k) u (q.as_written k g t)

    -- what did not clash does not
    left-calm : clash r s ≡ false → clash x y ≡ false
    left-calm w =
        not_so (λ e.
        let z = (clashes-so x y).0 e in
        let a : new_mark c m r.target ≡ new_mark c m s.target = cc (p.target, q.target, z.mark) in
        contra ((clashes-so r s).1 (record {
          mark = new-one c m r.target s.target p.stay q.stay a;
          effects = λ f. z.effects (cc);
          close = λ f. z.close (left-apart f);
        })) w)

  abbrev Calm : Rule → Rule → Type 0
  Calm x y = clash x y ≡ false

  reduced-calm : (r s : Rule) → Calm r s → All (λ x. All (Calm x) (reduced c m s)) (reduced c m r)
  reduced-calm r s w =
      all_map (Left r) (λ x. All (Calm x) (reduced c m s)) (λ x p. all_map (Left s) (Calm x) (λ y q. left-calm r s x y p q w) (reduced c m s) (reduced-left s))
      (reduced c m r) (reduced-left r)

  -- no clash, since the full book has none
  pub smaller-calm : NoClash (smaller_book c m)
  unfolding smaller_book smaller_rules derived_book
  smaller-calm =
      pairs-at Calm no_rule (packed (reduced c m) (derived_rules c))
      (packed-pairs (reduced c m) (reduced-fewer c m) Calm Calm reduced-calm (derived_rules c) (at-pairs Calm no_rule (derived_rules c) (derived-calm c)))

  -- ---- no loop

  module _ (few : n ≤ max_events) where
    -- a smaller text names no stage
    text-high : (e : ℕ) → All (λ w. n ≤ w) (smaller_text c m e)
    unfolding smaller_text
    text-high e =
        spoken-names (λ w. n ≤ w) (omega arith) (omega arith) (omega arith) true (smaller_clauses c m e)
        (all_map (Names (There c m)) (Names (λ w. n ≤ w)) (names-less (There c m) (λ w. n ≤ w) (λ w i. i.0)) (smaller_clauses c m e) (clauses-there c m e))

    -- what refers to a mark is a stage's rule, and the mark is no stage
    abbrev Refers : Rule → Type 0
    Refers x = (k : ℕ) → (awaits x.trigger k || reads (text_of (smaller_book c m)) x.sense k) ≡ true → (x.target < n) × (n ≤ k)

    on-refers : (e : ℕ) → e < n → (b : Bool) (k : ℕ) → All Refers (reduced c m (on e b k))
    unfolding reduced restated awaits reads
    on-refers e h b k = cases (stays c m k) (λ t. rw t ((λ j r. contra r refl), tt)) (λ t. rw t tt)

    text-refers : (e : ℕ) → e < n → has_text c m e ≡ true → (k : ℕ) → elem k (text_of (smaller_book c m) (new_condition c m e)) ≡ true → (new_mark c m e < n) × (n ≤ k)
    text-refers e h t k r = (rw (new-stage c m e h) h, all-elem (λ w. n ≤ w) (smaller_text c m e) (text-high e) k (rw (smaller-text c m e h t) at r))

    opens-refers : (e : ℕ) → e < n → All Refers (reduced c m (opens e))
    unfolding reduced restated awaits reads
    opens-refers e h =
        cases (stays c m e)
        (λ t. cases (has_text c m e) (λ u. rw (t, u) (text-refers e h u, tt)) (λ u. rw (t, u) ((λ j r. contra r refl), tt)))
        (λ t. rw t tt)

    closes-refers : (e : ℕ) → e < n → All Refers (reduced c m (closes e))
    unfolding reduced restated awaits reads
    closes-refers e h = cases (stays c m e) (λ t. cases (has_text c m e) (λ u. rw (t, u) (text-refers e h u, tt)) (λ u. rw (t, u) tt)) (λ t. rw t tt)

    refers-at : (r : ℕ) → r < length (smaller_book c m).rules → Refers (rule_of (smaller_book c m) r)
    unfolding smaller_book
    refers-at = all-at Refers no_rule (smaller_rules c m) (of-kinds c m Refers on-refers opens-refers closes-refers)

    -- no loop, whichever stage the rules are counted for: what counts is not looked at
    pub smaller-no-loop : (stage : ℕ) → NoLoop (net_of (smaller_book c m) stage)
    unfolding net_of refers
    smaller-no-loop stage r h l =
        let (q, i, e, k) = turn (net_of (smaller_book c m) stage) r h l in
        let (p, j, g, z) = turn (net_of (smaller_book c m) stage) q i k in
        let a = refers-at r h.0 (rule_of (smaller_book c m) q).target e in
        let b = refers-at q i.0 (rule_of (smaller_book c m) p).target g in
        omega (arith, a.1, b.0)

  -- ---- so the check passes it

  -- the image says the smaller book
  pub said : book_of (image_of (smaller_book c m)) ≡ smaller_book c m
  said = book-of-image (smaller_book c m)

  pub smaller-passes : Fit c → BookPasses (image_of (smaller_book c m))
  smaller-passes fit = record { formed = smaller-well c m fit; acyclic = λ stage h. rw said (smaller-no-loop fit.few stage); calm = rw said smaller-calm }
