-- What the counts beside an image say, and whether a rule has a condition, by its byte. Assumes nothing.
use mathlib.Core.Path.{◌≡◌, ap}
use mathlib.Core.List.{List}
use Prim.Native.Nat.{ℕ}
use native.Mathlib.Omega.{arith}
use lib.Dec.{eqb, leb}
use borrow.Author.Tests.{eqb-true, eqb-false, le-leb, lt-leb}
use Rattle.general.specs.Cases.{cases}
use Rattle.book.specs.Image.{marks_in, conditions_in, sense_from}
use Rattle.book.specs.WellRead.{Opened}
use Rattle.book.specs.declared.Counts.{Counts}
use Rattle.loop_search.specs.Searching.{asks}

module _ (s : List ℕ) (h : Counts) (o : Opened s h) where
  pub marks-many : h.marks ≡ marks_in s
  marks-many = ap (λ (c : Counts). c.marks) o.counts

  pub conditions-many : h.conditions ≡ conditions_in s
  conditions-many = ap (λ (c : Counts). c.conditions) o.counts

pub asks-byte : (k c : ℕ) → asks (sense_from k c) ≡ leb 1 k
unfolding sense_from asks
asks-byte k c =
    cases (eqb k 0) (λ e. rw (e, lt-leb 1 k (omega (arith, eqb-true k 0 e))))
    (λ e. rw (e, le-leb 1 k (omega (arith, eqb-false k 0 e))) (cases (eqb k 1) (λ f. rw f) (λ f. rw f)))
