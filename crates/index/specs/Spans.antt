-- Among which rules those that count for a stage are: for each stage the lowest and the highest that waits for its completion, and the same of those that wait
-- for none. Assumes nothing.
use Rattle.std.specs.Prelude.{◌≡◌, refl, ◌≢◌, false, cond, List, ℕ, ◌+◌, ◌≤◌, ◌<◌, eqb, length, get_or, set, replicate}
use Rattle.std.proofs.Common.{sym, ap, ◌∙◌, arith, length-set, get_or-set_same, get_or-set_other, eqb-true, eq-eqb, ne_eqb}
use Rattle.std.proofs.lemmas.List.{length-replicate, get_or-replicate}
use Rattle.std.proofs.lemmas.Bool.{eqb-false}
use Rattle.paper.specs.Limits.{max_events}
use Rattle.general.specs.Cases.{cases}
use Rattle.book.specs.Image.{rules_in, rule_place, kind_at, number_at}
use Rattle.book.specs.WellFormed.{WellFormed}
use Rattle.rule_order.specs.Nets.{rules_of, counts-completed}
use Rattle.unwritten.specs.Counters.{Span}

abbrev pub places : ℕ
places = max_events + 1

-- the stage whose completion rule r waits for, or the place behind the stages; trigger kind 1 is a completion
unfoldable pub place_of : List ℕ → ℕ → ℕ
place_of s r = cond (eqb (kind_at s (rule_place r)) 1) (number_at s (rule_place r)) max_events

-- the tables name no rule past the last
pub record Bounded (rules : ℕ) (low high : List ℕ) : Type 0 where
  pub from : (p : ℕ) → p < places → get_or low p 0 ≤ rules
  pub to : (p : ℕ) → p < places → get_or high p 0 ≤ rules

-- each of the first k rules lies between what the tables have at its place
pub record Spans (s : List ℕ) (rules k : ℕ) (low high : List ℕ) : Type 0 where
  pub within : k ≤ rules
  pub lows : length low ≡ places
  pub highs : length high ≡ places
  pub bounded : Bounded rules low high
  pub each : (r : ℕ) → r < k → (get_or low (place_of s r) 0 ≤ r) × (r < get_or high (place_of s r) 0)

-- ---- the place of a rule

module _ (s : List ℕ) (g : WellFormed s) (r : ℕ) (h : r < rules_in s) where
  pub place_other : (kind_at s (rule_place r) ≡ 1 → ⊥) → (max_events ≡ place_of s r) × (max_events < places)
  unfolding place_of
  place_other n = (rw (ne_eqb (kind_at s (rule_place r)) 1 n), omega arith)

  pub place-completed : (c : ℕ) → kind_at s (rule_place r) ≡ 1 → c ≡ number_at s (rule_place r) → (c ≡ place_of s r) × (c < places)
  unfolding place_of
  place-completed c e q = (rw (eq-eqb (kind_at s (rule_place r)) 1 e, q), omega (arith, (g.rules r h).completed e, g.headed.counted.stages))

  -- a rule that waits for another stage's completion does not count
  elsewhere : (stage : ℕ) → (place_of s r ≡ stage → ⊥) → (place_of s r ≡ max_events → ⊥) → (rules_of s stage).counts r ≡ false
  elsewhere stage n m =
      cases (eqb (kind_at s (rule_place r)) 1)
      (λ x. let e : kind_at s (rule_place r) ≡ 1 = eqb-true (kind_at s (rule_place r)) 1 x in
      sym (counts-completed s stage r (number_at s (rule_place r)) h e refl)
      ∙ ne_eqb (number_at s (rule_place r)) stage (λ q. n (sym (place-completed (number_at s (rule_place r)) e refl).0 ∙ q)))
      (λ x. absurd (m (sym (place_other (eqb-false (kind_at s (rule_place r)) 1 x)).0)))

-- ---- the first k rules asked

module _ (s : List ℕ) (rules : ℕ) (g : WellFormed s) (many : rules ≡ rules_in s) where
  pub spans-first : Spans s rules 0 (replicate places rules) (replicate places 0)
  spans-first =
      record {
        within = omega arith;
        lows = length-replicate {A = ℕ} places rules;
        highs = length-replicate {A = ℕ} places 0;
        bounded = record { from = λ p h. omega (arith, get_or-replicate {A = ℕ} places p rules 0 h); to = λ p h. omega (arith, get_or-replicate {A = ℕ} places p 0 0 h) };
        each = λ r h. absurd (omega arith);
      }

  module _ (k : ℕ) (low high : List ℕ) (a : Spans s rules k low high) (h : k < rules) (p n : ℕ) (q : p ≡ place_of s k) (small : p < places) (l : n ≤ get_or low p 0) (i : n ≤ k) where
    pub spans-more : Spans s rules (k + 1) (set low p n) (set high p (k + 1))
    spans-more =
        let u = a.lows in
        let v = a.highs in
        let x : get_or (set low p n) p 0 ≡ n = get_or-set_same low p n 0 (omega arith) in
        let y : get_or (set high p (k + 1)) p 0 ≡ k + 1 = get_or-set_same high p (k + 1) 0 (omega arith) in
        record {
          within = omega arith;
          lows = length-set low p n ∙ a.lows;
          highs = length-set high p (k + 1) ∙ a.highs;
          bounded = record {
            from = λ t j. cases (eqb t p) (λ z. rw (eqb-true t p z) (omega arith)) (λ z. omega (arith, get_or-set_other low p t n 0 (eqb-false t p z), a.bounded.from t j));
            to = λ t j. cases (eqb t p) (λ z. rw (eqb-true t p z) (omega arith)) (λ z. omega (arith, get_or-set_other high p t (k + 1) 0 (eqb-false t p z), a.bounded.to t j));
          };
          each = λ r j. cases (eqb (place_of s r) p)
              (λ z. let e : place_of s r ≡ p = eqb-true (place_of s r) p z in
              rw (e, x, y) (cases (eqb r k) (λ w. (omega (arith, eqb-true r k w), omega arith))
              (λ w. let m = eqb-false r k w in (omega (arith, rw e at (a.each r (omega arith)).0), omega arith))))
              (λ z. let e : place_of s r ≢ p = eqb-false (place_of s r) p z in
              let m : r ≢ k = λ w. e (ap (place_of s) w ∙ sym q) in
              rw (get_or-set_other low p (place_of s r) n 0 e, get_or-set_other high p (place_of s r) (k + 1) 0 e) (a.each r (omega arith)));
        }

  pub spans-last : (k : ℕ) (low high : List ℕ) → Spans s rules k low high → rules ≤ k → Spans s rules rules low high
  spans-last k low high a h = let i = a.within in let e : k ≡ rules = omega arith in rw e at a

-- ---- those that count for a stage

-- r is not one from `from` to below `to`
abbrev pub Outside : ℕ → ℕ → ℕ → Type 0
Outside from to r = from ≤ r → to ≤ r

-- what lies in neither of two spans lies in no rule's span
pub record Covers (a b c d rules from to again end : ℕ) : Type 0 where
  pub first : from ≤ to
  pub gap : to ≤ again
  pub then : again ≤ end
  pub within : end ≤ rules
  pub below : (r : ℕ) → r < from → Outside a b r × Outside c d r
  pub between : (r : ℕ) → to ≤ r → r < again → Outside a b r × Outside c d r
  pub above : (r : ℕ) → end ≤ r → r < rules → Outside a b r × Outside c d r

module _ (a b c d rules from : ℕ) where
  pub covers-apart : (end : ℕ) → b ≤ c → (from ≤ a) × (from ≤ b) → (c ≤ end) × (d ≤ end) × ((n : ℕ) → c ≤ n → d ≤ n → end ≤ n) → c ≤ rules → d ≤ rules
      → Covers a b c d rules from b c end
  covers-apart end h (f, g) (i, j, m) k l =
      record {
        first = g;
        gap = h;
        then = i;
        within = m rules k l;
        below = λ r u. (λ v. omega arith, λ v. omega arith);
        between = λ r u w. (λ v. omega arith, λ v. omega arith);
        above = λ r u w. (λ v. omega arith, λ v. omega arith);
      }

  pub covers-joined : (to : ℕ) → c < b → (from ≤ a) × (from ≤ c) → (b ≤ to) × (d ≤ to) × ((n : ℕ) → b ≤ n → d ≤ n → to ≤ n) → b ≤ rules → d ≤ rules
      → Covers a b c d rules from to rules rules
  covers-joined to h (f, g) (i, j, m) k l =
      record {
        first = omega arith;
        gap = m rules k l;
        then = omega arith;
        within = omega arith;
        below = λ r u. (λ v. omega arith, λ v. omega arith);
        between = λ r u w. (λ v. omega arith, λ v. omega arith);
        above = λ r u w. absurd (omega arith);
      }

module _ (s : List ℕ) (rules : ℕ) (g : WellFormed s) (many : rules ≡ rules_in s) (low high : List ℕ) (a : Spans s rules rules low high) (stage from to again end : ℕ)
    (x : Covers (get_or low stage 0) (get_or high stage 0) (get_or low max_events 0) (get_or high max_events 0) rules from to again end) where
  outside : (r : ℕ) → r < rules → Outside (get_or low stage 0) (get_or high stage 0) r × Outside (get_or low max_events 0) (get_or high max_events 0) r → (rules_of s stage).counts r ≡ false
  outside r h (u, v) =
      let (i, j) = a.each r h in
      elsewhere s g r (omega arith) stage (λ q. omega (arith, u (rw q at i), rw q at j)) (λ q. omega (arith, v (rw q at i), rw q at j))

  pub spans-span : Span (rules_of s stage) rules from to again end
  spans-span =
      let i = x.first in
      let j = x.gap in
      let k = x.then in
      let l = x.within in
      record {
        first = x.first;
        gap = x.gap;
        then = x.then;
        within = x.within;
        below = λ r u. outside r (omega arith) (x.below r u);
        between = λ r u v. outside r (omega arith) (x.between r u v);
        above = λ r u v. outside r v (x.above r u v);
      }
