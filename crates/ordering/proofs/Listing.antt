-- The running order in the room, entry by entry, as `running_order` writes it. Assumes nothing.
use mathlib.Core.Path.{◌≡◌, refl, sym, ap, ◌∙◌}
use mathlib.Core.List.{List, [], ◌∷◌, ◌++◌, append_assoc}
use Prim.Native.Nat.{ℕ, suc, ◌+◌, ◌≤◌, ◌<◌}
use native.Mathlib.Numerals.{add-one}
use native.Mathlib.Omega.{arith}
use lib.ListN.{length, get_or, set, take, drop, length-append, length-drop}
use lib.Seq.{length-take-le, take-suc, take_all, drop-cons, set_at}
use borrow.Author.Tests.{le-leb, lt-leb}
use Rattle.paper.specs.Limits.{max_marks, max_rules}
use Rattle.book.specs.Image.{rules_in}
use Rattle.book.specs.WellFormed.{WellFormed}
use Rattle.order_theory.specs.Order.{NoLoop, counted_rules, counted-few}
use Rattle.order_theory.specs.Running.{running_order}
use Rattle.order_theory.proofs.Running.{running-length}
use Rattle.rule_order.specs.Nets.{rules_of, targets-small, few-count}
use Rattle.unwritten.specs.Counters.{Begun}
use Rattle.ordering.specs.declared.scan.Scan.{Scan}
use Rattle.ordering.specs.Scanning.{Scanned, Turn, ordered_room, scanned-first}

-- the room that was lent has j rules of the order in its first entries
pub record Listed (s : List ℕ) (stage : ℕ) (lent room : List ℕ) (counted : ℕ) (scan : Scan) (counts waits written low high : List ℕ) (j : ℕ) : Type 0 where
  pub scanned : Scanned s stage j scan counts waits written low high
  pub many : counted ≡ counted_rules (rules_of s stage)
  pub whole : length (running_order (rules_of s stage)) ≡ counted
  pub few : counted ≤ max_rules
  pub fits : counted ≤ length lent
  pub holds : room ≡ take j (running_order (rules_of s stage)) ++ drop j lent

module _ (s : List ℕ) (stage : ℕ) (lent : List ℕ) (counted : ℕ) where
  -- too short a room is left as it is
  pub room-short : counted ≡ counted_rules (rules_of s stage) → length lent < counted → lent ≡ ordered_room (rules_of s stage) lent
  unfolding ordered_room
  room-short e h = rw (lt-leb (counted_rules (rules_of s stage)) (length lent) (omega arith))

  pub listed-first : (scan : Scan) (counts waits written low high : List ℕ) → (scan.at ≡ 0) × (scan.front ≡ 0) → length low ≡ max_marks → length high ≡ max_marks → WellFormed s → NoLoop (rules_of s stage) → counted ≡ counted_rules (rules_of s stage) → Begun (rules_of s stage) counts waits written
      → counted ≤ length lent → Listed s stage lent lent counted scan counts waits written low high 0
  listed-first scan counts waits written low high i l k g n e b h =
      record {
        scanned = scanned-first s stage scan counts waits written low high i l k b;
        many = e;
        whole = running-length (rules_of s stage) max_marks (targets-small s stage g) n ∙ sym e;
        few = omega (arith, counted-few (rules_of s stage), few-count s stage g);
        fits = h;
        holds = refl;
      }

  module _ (room : List ℕ) (scan : Scan) (counts waits written low high : List ℕ) (j : ℕ) (l : Listed s stage lent room counted scan counts waits written low high j) where
    front : length (take j (running_order (rules_of s stage))) ≡ j
    front = length-take-le j (running_order (rules_of s stage)) l.scanned.many

    pub listed-length : length room ≡ length lent
    listed-length =
        ap length l.holds ∙ length-append (take j (running_order (rules_of s stage))) (drop j lent)
        ∙ (let f = l.fits in let m = l.scanned.many in let w = l.whole in omega (arith, front, length-drop j lent))

    -- the whole order is written
    pub listed-last : counted ≤ j → room ≡ ordered_room (rules_of s stage) lent
    unfolding ordered_room
    listed-last h =
        let m = l.scanned.many in
        let w = l.whole in
        let z : j ≡ counted_rules (rules_of s stage) = (let e = l.many in omega arith) in
        rw (le-leb (counted_rules (rules_of s stage)) (length lent) (let e = l.many in let f = l.fits in omega arith))
        (l.holds ∙ rw (take_all j (running_order (rules_of s stage)) (omega arith), z))

    module _ (scan' : Scan) (counts' waits' written' low' high' : List ℕ) (t : Turn s scan counts waits written low high scan' counts' waits' written' low' high') where
      is-there : scan'.rule ≡ get_or (running_order (rules_of s stage)) j (rules_in s)
      is-there = (t.finds stage j l.scanned).next

      -- one entry more
      pub listed_more : j < counted → Listed s stage lent (set room j scan'.rule) counted scan' counts' waits' written' low' high' (j + 1)
      listed_more h =
          let w = l.whole in
          let f = l.fits in
          record {
            scanned = (t.finds stage j l.scanned).goes (omega arith);
            many = l.many;
            whole = w;
            few = l.few;
            fits = f;
            holds = ap (λ (k : List ℕ). set k j scan'.rule) (l.holds ∙ ap (λ (k : List ℕ). take j (running_order (rules_of s stage)) ++ k) (drop-cons lent j 0 (omega arith)))
                ∙ set_at (take j (running_order (rules_of s stage))) (get_or lent j 0) (drop (suc j) lent) scan'.rule j front
                ∙ rw (add-one, take-suc (running_order (rules_of s stage)) j (rules_in s) (omega arith), ← is-there)
                (sym (append_assoc (take j (running_order (rules_of s stage))) (scan'.rule ∷ []) (drop (suc j) lent)));
          }
