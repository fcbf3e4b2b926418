-- The running order lists all counted rules exactly if there is no loop, and the scan tells which it is. Assumes nothing.
use mathlib.Core.Path.{◌≡◌, refl}
use mathlib.Core.Logic.{◌↔◌}
use mathlib.Core.Bool.{true, false}
use mathlib.Core.List.{List}
use Prim.Native.Nat.{ℕ, zero, suc, ◌+◌, ◌≤◌, ◌<◌}
use native.Mathlib.Omega.{arith}
use lib.Dec.{eqb, ltb}
use lib.ListN.{length}
use borrow.Author.Tests.{ltb-true, ltb-false}
use Rattle.paper.specs.Limits.{max_marks}
use Rattle.general.specs.Cases.{cases, contra}
use Rattle.book.specs.Image.{rules_in}
use Rattle.book.specs.WellFormed.{WellFormed}
use Rattle.order_theory.specs.Order.{Net, NoLoop, counted_rules}
use Rattle.order_theory.specs.Written.{Written, none, write, each-listed}
use Rattle.order_theory.specs.Running.{next, greedy, running_order}
use Rattle.order_theory.proofs.Running.{fresh, greedy-distinct, running-whole, running-length}
use Rattle.rule_order.specs.Nets.{rules_of, targets-small}
use Rattle.unwritten.specs.Counters.{Begun}
use Rattle.ordering.specs.declared.scan.Scan.{Scan}
use Rattle.ordering.specs.Scanning.{Scanned, Turn, scanned-first, order-past}

greedy-few : (N : Net) (f : ℕ) (d : Written) → length (greedy N f d) ≤ f
unfolding greedy
greedy-few N zero d = omega arith
greedy-few N (suc f) d =
    cases (eqb (next N d) N.count) (λ e. rw e (omega arith)) (λ e. rw e (let h = greedy-few N f (write d (next N d)) in omega arith))

-- an order as long as there are counted rules lists each of them
long-no-loop : (s : List ℕ) (stage : ℕ) → WellFormed s → counted_rules (rules_of s stage) ≤ length (running_order (rules_of s stage)) → NoLoop (rules_of s stage)
unfolding running_order
long-no-loop s stage g h =
    (running-whole (rules_of s stage) max_marks (targets-small s stage g)).0
    (each-listed (rules_of s stage).count (rules_of s stage).counts (running_order (rules_of s stage))
    (let l = greedy-few (rules_of s stage) (counted_rules (rules_of s stage)) none in omega arith) (greedy-distinct (rules_of s stage) (counted_rules (rules_of s stage)) none)
    (λ q i. (fresh (rules_of s stage) (counted_rules (rules_of s stage)) none q i).0))

-- j rules of the order are come to
pub record Through (s : List ℕ) (stage counted : ℕ) (scan : Scan) (counts waits written low high : List ℕ) (j : ℕ) : Type 0 where
  pub scanned : Scanned s stage j scan counts waits written low high
  pub many : counted ≡ counted_rules (rules_of s stage)

pub through-first : (s : List ℕ) (stage counted : ℕ) (scan : Scan) (counts waits written low high : List ℕ) → (scan.at ≡ 0) × (scan.front ≡ 0) → length low ≡ max_marks → length high ≡ max_marks
    → counted ≡ counted_rules (rules_of s stage) → Begun (rules_of s stage) counts waits written → Through s stage counted scan counts waits written low high 0
through-first s stage counted scan counts waits written low high i l k e b = record { scanned = scanned-first s stage scan counts waits written low high i l k b; many = e }

module _ (s : List ℕ) (stage : ℕ) (g : WellFormed s) (counted : ℕ) (scan : Scan) (counts waits written low high : List ℕ) (j : ℕ)
    (f : Through s stage counted scan counts waits written low high j) where
  pub through-last : counted ≤ j → (true ≡ true) ↔ NoLoop (rules_of s stage)
  through-last h = (λ e. long-no-loop s stage g (let m = f.scanned.many in let e = f.many in omega arith), λ n. refl)

  module _ (h : j < counted) where
    -- the order ended before all were listed
    pub through-stuck : ((stage n : ℕ) → Scanned s stage n scan counts waits written low high → length (running_order (rules_of s stage)) ≤ n) → (false ≡ true) ↔ NoLoop (rules_of s stage)
    through-stuck t = (
      λ x. contra x refl,
      λ n. absurd (let z = running-length (rules_of s stage) max_marks (targets-small s stage g) n in let m = f.many in omega (arith, t stage j f.scanned)),
    )

    pub through-more : (scan' : Scan) (counts' waits' written' low' high' : List ℕ) → Turn s scan counts waits written low high scan' counts' waits' written' low' high' → scan'.rule < rules_in s
        → Through s stage counted scan' counts' waits' written' low' high' (j + 1)
    through-more scan' counts' waits' written' low' high' t l =
        record {
          scanned = cases (ltb j (length (running_order (rules_of s stage)))) (λ x. (t.finds stage j f.scanned).goes (ltb-true j (length (running_order (rules_of s stage))) x))
              (λ x. absurd (omega (arith, (t.finds stage j f.scanned).next, order-past s stage j (ltb-false j (length (running_order (rules_of s stage))) x))));
          many = f.many;
        }
