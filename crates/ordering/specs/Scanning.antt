-- The scan that comes to the running order rule by rule: where it stands, and which rule is next. Assumes nothing.
use Rattle.std.specs.Prelude.{◌≡◌, false, cond, List, ◌++◌, ℕ, ◌+◌, ◌≤◌, ◌<◌, ltb, leb, length, get_or, drop}
use Rattle.std.proofs.Common.{sym, ap, subst, ◌∙◌, arith, ltb-true, ltb-false}
use Rattle.std.proofs.Math.ListN.{get_or-eq_default}
use Rattle.general.specs.Cases.{cases}
use Rattle.paper.specs.Limits.{max_marks}
use Rattle.book.specs.Image.{rules_in}
use Rattle.order_theory.specs.Order.{Net, Counted, counted_rules}
use Rattle.order_theory.specs.Written.{Written, none}
use Rattle.order_theory.specs.Running.{unwritten, greedy, running_order}
use Rattle.order_theory.proofs.Running.{fresh}
use Rattle.order_theory.specs.Skipped.{skipped, Skips, skips-first}
use Rattle.order_theory.proofs.Skipped.{skipped-unwritten, skipped-running}
use Rattle.order_theory.specs.Index.{mem-any}
use Rattle.unwritten.specs.Words.{rule_words, flagged}
use Rattle.rule_order.specs.Nets.{rules_of, count-is}
use Rattle.unwritten.specs.Counters.{Counters, Begun}
use Rattle.ordering.specs.declared.scan.Scan.{Scan}
use Rattle.ordering.specs.Passed.{Blocked}

-- the first n rules of the running order are written; what is unwritten below `at`, or from `until` on and below `front`, is passed over
pub record Scanned (s : List ℕ) (stage n : ℕ) (scan : Scan) (counts waits written low high : List ℕ) : Type 0 where
  pub size : length written ≡ rule_words
  pub lows : length low ≡ max_marks
  pub highs : length high ≡ max_marks
  pub skips : Skips (rules_of s stage) (flagged written)
  pub counters : Counters (rules_of s stage) (flagged written) counts waits
  pub many : n ≤ length (running_order (rules_of s stage))
  pub rest : drop n (running_order (rules_of s stage)) ≡ greedy (rules_of s stage) (unwritten (rules_of s stage) (flagged written)) (flagged written)
  pub below : (p : ℕ) → p < scan.at → flagged written p ≡ false → Blocked s waits low high p
  pub beyond : (p : ℕ) → scan.until ≤ p → p < scan.front → flagged written p ≡ false → Blocked s waits low high p

-- rule n of the running order is come to, and written, or R where the order has no rule n
pub record Found (s : List ℕ) (stage n : ℕ) (scan : Scan) (counts waits written low high : List ℕ) : Type 0 where
  pub next : scan.rule ≡ get_or (running_order (rules_of s stage)) n (rules_in s)
  pub goes : n < length (running_order (rules_of s stage)) → Scanned s stage (n + 1) scan counts waits written low high

-- one turn: what is found from where the scan stands, for each stage and n of which that holds
pub record Turn (s : List ℕ) (scan : Scan) (counts waits written low high : List ℕ) (scan' : Scan) (counts' waits' written' low' high' : List ℕ) : Type 0 where
  pub finds : (stage n : ℕ) → Scanned s stage n scan counts waits written low high → Found s stage n scan' counts' waits' written' low' high'

-- the scan once it stands at another rule
abbrev pub moved : Scan → ℕ → Scan
moved scan at = record { rule = scan.rule; at = at; until = scan.until; front = scan.front }

-- a room once the running order was asked for: it stands in the first entries, unless the room is too short
unfoldable pub ordered_room : Net → List ℕ → List ℕ
ordered_room N room = cond (leb (counted_rules N) (length room)) (running_order N ++ drop (counted_rules N) room) room

-- every entry of the running order is a rule that counts
pub order-counted : (N : Net) (n d : ℕ) → n < length (running_order N) → Counted N (get_or (running_order N) n d)
unfolding running_order
order-counted N n d h = (fresh N (counted_rules N) none (get_or (running_order N) n d) (mem-any (running_order N) n d h)).0

module _ (s : List ℕ) (stage : ℕ) where
  -- the start
  pub scanned-first : (scan : Scan) (counts waits written low high : List ℕ) → (scan.at ≡ 0) × (scan.front ≡ 0) → length low ≡ max_marks → length high ≡ max_marks
      → Begun (rules_of s stage) counts waits written → Scanned s stage 0 scan counts waits written low high
  scanned-first scan counts waits written low high (i, j) l k b =
      let z : flagged written ≡ skipped (rules_of s stage) = b.flags in
      let u : unwritten (rules_of s stage) (flagged written) ≡ counted_rules (rules_of s stage) = ap (λ (d : Written). unwritten (rules_of s stage) d) z ∙ skipped-unwritten (rules_of s stage) in
      record {
        size = b.size;
        lows = l;
        highs = k;
        skips = subst (λ (d : Written). Skips (rules_of s stage) d) (sym z) (skips-first (rules_of s stage));
        counters = b.counters;
        many = omega arith;
        rest = sym (ap (λ (k : ℕ). greedy (rules_of s stage) k (flagged written)) u ∙ ap (λ (d : Written). greedy (rules_of s stage) (counted_rules (rules_of s stage)) d) z ∙ skipped-running
            (rules_of s stage));
        below = λ p h. absurd (omega arith);
        beyond = λ p h k. absurd (omega arith);
      }

  -- a rule that was come to is below R exactly if the order has it
  pub order_below : (n : ℕ) → n < length (running_order (rules_of s stage)) → get_or (running_order (rules_of s stage)) n (rules_in s) < rules_in s
  order_below n h = omega (arith, (order-counted (rules_of s stage) n (rules_in s) h).0, count-is s stage)

  pub order-past : (n : ℕ) → length (running_order (rules_of s stage)) ≤ n → get_or (running_order (rules_of s stage)) n (rules_in s) ≡ rules_in s
  order-past n h = get_or-eq_default (running_order (rules_of s stage)) (rules_in s) h

  pub order-few : (n : ℕ) → get_or (running_order (rules_of s stage)) n (rules_in s) ≤ rules_in s
  order-few n =
      cases (ltb n (length (running_order (rules_of s stage))))
      (λ e. omega (arith, order_below n (ltb-true n (length (running_order (rules_of s stage))) e)))
      (λ e. omega (arith, order-past n (ltb-false n (length (running_order (rules_of s stage))) e)))
