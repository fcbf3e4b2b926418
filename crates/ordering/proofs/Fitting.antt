-- The fit test of a given order, entry by entry, as the code takes it. Assumes nothing.
use mathlib.Core.Path.{◌≡◌, sym, subst, ◌∙◌}
use mathlib.Core.Bool.{Bool, true, false, and-false}
use mathlib.Core.List.{List}
use Prim.Native.Nat.{ℕ, ◌+◌, ◌/◌, ◌≤◌, ◌<◌}
use native.Mathlib.Omega.{arith}
use lib.Dec.{eqb, ltb}
use lib.ListN.{length, get_or, drop, length-set}
use borrow.Author.Tests.{eq-eqb, ne_eqb, lt-ltb, le-ltb}
use Rattle.paper.specs.Limits.{max_marks}
use Rattle.book.specs.Book.{rule_of}
use Rattle.book.specs.Image.{rules_in, book_of}
use Rattle.book.specs.Marks.{word_bits}
use Rattle.book.specs.WellFormed.{WellFormed}
use Rattle.order_theory.specs.Order.{Counted, counted_rules}
use Rattle.order_theory.specs.Written.{Written, none}
use Rattle.order_theory.specs.Running.{ready}
use Rattle.order_theory.proofs.Running.{ready-is}
use Rattle.order_theory.specs.Pass.{fine, passes, fit_pass, passes-end, passes_on, passes-stop}
use Rattle.order_theory.specs.Skipped.{Skips, skips-first, skips-write}
use Rattle.order_theory.proofs.Skipped.{skipped-passes}
use Rattle.rule_order.specs.Nets.{rules_of, target-in, below-count, past-count, rules-few}
use Rattle.unwritten.specs.Words.{rule_words, marked, flagged, flagged-set}
use Rattle.unwritten.specs.Counters.{Counters, Begun, Struck, struck-on}
use Rattle.ordering.specs.Ready.{may_stand, stand-ready}

-- the first j entries may stand where they do, and what the rest gives is what the whole gives
pub record Fitting (s : List ℕ) (stage : ℕ) (order : List ℕ) (written counts waits : List ℕ) (j : ℕ) : Type 0 where
  pub size : length written ≡ rule_words
  pub skips : Skips (rules_of s stage) (flagged written)
  pub counters : Counters (rules_of s stage) (flagged written) counts waits
  pub rest : passes (rules_of s stage) (flagged written) (drop j order) ≡ passes (rules_of s stage) none order

module _ (s : List ℕ) (stage : ℕ) (order : List ℕ) where
  pub fitting-first : (counts waits written : List ℕ) → Begun (rules_of s stage) counts waits written → Fitting s stage order written counts waits 0
  fitting-first counts waits written b =
      record {
        size = b.size;
        skips = subst (λ (d : Written). Skips (rules_of s stage) d) (sym b.flags) (skips-first (rules_of s stage));
        counters = b.counters;
        rest = rw b.flags (skipped-passes (rules_of s stage) order);
      }

  -- another length
  pub fitting-short : (n : ℕ) → n ≡ counted_rules (rules_of s stage) → (length order ≡ n → ⊥) → false ≡ fit_pass (rules_of s stage) order
  unfolding fit_pass
  fitting-short n e h = rw (ne_eqb (length order) (counted_rules (rules_of s stage)) (λ q. h (q ∙ sym e)))

  module _ (written counts waits : List ℕ) (j : ℕ) (f : Fitting s stage order written counts waits j) where
    stops : j < length order → fine (rules_of s stage) (flagged written) (get_or order j 0) ≡ false → false ≡ fit_pass (rules_of s stage) order
    unfolding fit_pass
    stops h e =
        let z : passes (rules_of s stage) none order ≡ false = sym f.rest ∙ passes-stop (rules_of s stage) order (flagged written) j h e in
        rw z (sym (and-false (eqb (length order) (counted_rules (rules_of s stage)))))

    -- an entry that is no rule
    pub fitting-past : (n r : ℕ) → j < length order → n ≡ rules_in s → r ≡ get_or order j 0 → n ≤ r → false ≡ fit_pass (rules_of s stage) order
    unfolding fine
    fitting-past n r h e q l = stops h (rw (← q, le-ltb r (rules_of s stage).count (past-count s stage n r e l)))

    -- what the code tests is "ready"
    as-tested : (g : WellFormed s) (r : ℕ) (b : Bool) → b ≡ may_stand (book_of s) (flagged written) waits r → b ≡ ready (rules_of s stage) (flagged written) r
    as-tested g r b e = e ∙ stand-ready s stage (flagged written) waits r g f.skips f.counters.rest

    -- an entry that may not stand next
    pub fitting-unready : (r : ℕ) (b : Bool) → j < length order → WellFormed s → r ≡ get_or order j 0 → b ≡ may_stand (book_of s) (flagged written) waits r → b ≡ false
        → false ≡ fit_pass (rules_of s stage) order
    unfolding fine
    fitting-unready r b h g q e t = stops h (rw (← q, ← as-tested g r b e, t) (and-false (ltb r (rules_of s stage).count)))

    pub fitting-last : (n : ℕ) → n ≡ counted_rules (rules_of s stage) → length order ≡ n → n ≤ j → true ≡ fit_pass (rules_of s stage) order
    unfolding fit_pass
    fitting-last n e l h =
        let z : passes (rules_of s stage) none order ≡ true = sym f.rest ∙ passes-end (rules_of s stage) order (flagged written) j (omega arith) in
        rw (z, eq-eqb (length order) (counted_rules (rules_of s stage)) (l ∙ e))

    -- an entry that may
    module _ (g : WellFormed s) (n r : ℕ) (b : Bool) (e : n ≡ rules_in s) (i : r < n) (x : b ≡ may_stand (book_of s) (flagged written) waits r) (y : b ≡ true) where
      is-next : ready (rules_of s stage) (flagged written) r ≡ true
      is-next = sym (as-tested g r b x) ∙ y

      unwritten-now : flagged written r ≡ false
      unwritten-now = (ready-is (rules_of s stage) (flagged written) r is-next).0

      is-counted : Counted (rules_of s stage) r
      is-counted = (below-count s stage n r e i, (ready-is (rules_of s stage) (flagged written) r is-next).2)

      module _ (t : ℕ) (p' : t ≡ (rule_of (book_of s) r).target) (k : t < max_marks) where
        p : t ≡ (rules_of s stage).target r
        p = target-in s stage r t p'

        pub fitting-more : (counts' waits' written' : List ℕ) (done : Bool) → j < length order → r ≡ get_or order j 0 → written' ≡ marked written r → Struck t counts waits counts' waits' done
            → Fitting s stage order written' counts' waits' (j + 1)
        unfolding fine
        fitting-more counts' waits' written' done h q m a =
            let z : r / word_bits < length written = (let u = f.size in let v = rules-few s g in omega arith) in
            let w : fine (rules_of s stage) (flagged written) (get_or order j 0) ≡ true = rw (← q, lt-ltb r (rules_of s stage).count (below-count s stage n r e i), is-next) in
            rw m (record {
              size = length-set written (r / word_bits) _ ∙ f.size;
              skips = subst (λ (d : Written). Skips (rules_of s stage) d) (sym (flagged-set written r z)) (skips-write (rules_of s stage) (flagged written) f.skips r);
              counters = rw (flagged-set written r z) (struck-on (rules_of s stage) (flagged written) r t counts waits f.counters is-counted unwritten-now p k counts' waits' done a);
              rest = rw (flagged-set written r z) (rw q (sym (passes_on (rules_of s stage) order (flagged written) j h w) ∙ f.rest));
            })
