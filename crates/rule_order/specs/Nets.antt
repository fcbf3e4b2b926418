-- The rules of a well-formed image for the theorems on orders: how many there are, which count for a stage, and what they target. Assumes nothing.
use Rattle.std.specs.Prelude.{◌≡◌, Bool, true, false, List, ℕ, ◌+◌, ◌≤◌, ◌<◌, eqb}
use Rattle.std.proofs.Math.Path.{refl}
use Rattle.std.proofs.Common.{sym, ◌∙◌, arith}
use Rattle.std.proofs.Math.ListN.{get_or-eq_default}
use borrow.Author.Tests.{eq-eqb, ne_eqb}
use Rattle.paper.specs.Limits.{max_marks, max_rules}
use Rattle.general.specs.Cases.{cases}
use Rattle.general.specs.Below.{tally, tally-step, tally-le}
use Rattle.book.specs.Book.{rule_of, no_rule}
use Rattle.book.specs.Image.{rules_in, rule_place, trigger_from, rule_from, book_of, kind_at, number_at, target_at}
use Rattle.book.specs.Read.{rules-count, rule-read}
use Rattle.book.specs.WellFormed.{WellFormed}
use Rattle.order_theory.specs.Order.{Net, Counted, counted_rules, counted-few}
use Rattle.rule_order.specs.Rules.{counted, net_of}

-- the rules that an image says, and which count for a stage
abbrev pub rules_of : List ℕ → ℕ → Net
rules_of s stage = net_of (book_of s) stage

-- ---- what does not depend on the stage

module _ (s : List ℕ) (g : WellFormed s) where
  pub rules-few : rules_in s ≤ max_rules
  rules-few = g.headed.counted.rules

  pub target-says : (r t : ℕ) → r < rules_in s → t ≡ target_at s (rule_place r) → (t ≡ (rule_of (book_of s) r).target) × (t < max_marks)
  unfolding rule_from
  target-says r t h e =
      let i = (g.rules r h).target in
      let j = g.headed.counted.marks in
      (rw (rule-read s r h) e, omega arith)

  target_small : (r : ℕ) → r < rules_in s → (rule_of (book_of s) r).target < max_marks
  target_small r h = let (e, i) = target-says r (target_at s (rule_place r)) h refl in rw e at i

module _ (s : List ℕ) (stage : ℕ) where
  pub count-is : (rules_of s stage).count ≡ rules_in s
  unfolding net_of
  count-is = rules-count s

  pub target-in : (r t : ℕ) → t ≡ (rule_of (book_of s) r).target → t ≡ (rules_of s stage).target r
  unfolding net_of
  target-in r t e = e

  pub targets-small : WellFormed s → (r : ℕ) → Counted (rules_of s stage) r → (rules_of s stage).target r < max_marks
  unfolding net_of
  targets-small g r c = target_small s g r (rw count-is at c.0)

  -- by a number that says how many rules there are
  pub below-count : (n r : ℕ) → n ≡ rules_in s → r < n → r < (rules_of s stage).count
  below-count n r e h = omega (arith, count-is)

  pub past-count : (n r : ℕ) → n ≡ rules_in s → n ≤ r → (rules_of s stage).count ≤ r
  past-count n r e h = omega (arith, count-is)

  pub few-count : WellFormed s → (rules_of s stage).count ≤ max_rules
  few-count g = omega (arith, count-is, rules-few s g)

  pub few-counted : counted_rules (rules_of s stage) ≤ rules_in s
  few-counted = omega (arith, count-is, counted-few (rules_of s stage))

  -- ---- which count, by the bytes of the rule's record

  -- trigger kind 1 is a completion
  pub counts-other : (r : ℕ) → r < rules_in s → (kind_at s (rule_place r) ≡ 1 → ⊥) → true ≡ (rules_of s stage).counts r
  unfolding net_of counted rule_from trigger_from
  counts-other r h n =
      rw (rule-read s r h, ne_eqb (kind_at s (rule_place r)) 1 n)
      (cases (eqb (kind_at s (rule_place r)) 0) (λ x. rw x) (λ x. cases (eqb (kind_at s (rule_place r)) 2) (λ y. rw (x, y)) (λ y. rw (x, y))))

  pub counts-completed : (r c : ℕ) → r < rules_in s → kind_at s (rule_place r) ≡ 1 → c ≡ number_at s (rule_place r) → eqb c stage ≡ (rules_of s stage).counts r
  unfolding net_of counted rule_from trigger_from
  counts-completed r c h k e = rw (rule-read s r h, ne_eqb (kind_at s (rule_place r)) 0 (λ z. omega arith), eq-eqb (kind_at s (rule_place r)) 1 k, e)

  -- past the rules stands one without a trigger, which counts
  pub counts_past : (r : ℕ) → (rules_of s stage).count ≤ r → (rules_of s stage).counts r ≡ true
  unfolding net_of counted
  counts_past r h = rw (get_or-eq_default (book_of s).rules no_rule h)

-- ---- how many count, rule by rule

-- n of the first k rules count
pub record Asked (s : List ℕ) (stage n k : ℕ) : Type 0 where
  pub within : k ≤ rules_in s
  pub many : n ≡ tally k (rules_of s stage).counts

module _ (s : List ℕ) (stage : ℕ) where
  pub asked-first : Asked s stage 0 0
  unfolding tally
  asked-first = record { within = omega arith; many = refl }

  pub asked-few : (n k : ℕ) → Asked s stage n k → n ≤ k
  asked-few n k a = let e = a.many in omega (arith, tally-le k (rules_of s stage).counts)

  -- one that counts, and one that does not
  pub asked-on : (n k m : ℕ) (b : Bool) → Asked s stage n k → k < rules_in s → b ≡ (rules_of s stage).counts k → b ≡ true → m ≡ n + 1 → Asked s stage m (k + 1)
  asked-on n k m b a h e y q =
      let z : (rules_of s stage).counts k ≡ true = sym e ∙ y in
      record { within = omega arith; many = rw (tally-step k (rules_of s stage).counts, z) (let l = a.many in omega arith) }

  pub asked-past : (n k m : ℕ) (b : Bool) → Asked s stage n k → k < rules_in s → b ≡ (rules_of s stage).counts k → b ≡ false → m ≡ n → Asked s stage m (k + 1)
  asked-past n k m b a h e y q =
      let z : (rules_of s stage).counts k ≡ false = sym e ∙ y in
      record { within = omega arith; many = rw (tally-step k (rules_of s stage).counts, z) (let l = a.many in omega arith) }

  pub asked-last : (n k : ℕ) → Asked s stage n k → rules_in s ≤ k → n ≡ counted_rules (rules_of s stage)
  asked-last n k a h = let e : k ≡ (rules_of s stage).count = (let i = a.within in omega (arith, count-is s stage)) in a.many ∙ rw e
