-- Request (x): no two charts behind one book, from the definition of the derived book and the short way; and charts with one book grant
-- the same events and step alike. Assumes nothing.
use Rattle.std.specs.Prelude.{ℕ, ◌≤◌, ◌<◌, ◌≡◌, ◌↔◌, List, [], ◌∷◌, leb}
use Rattle.std.proofs.Common.{sym, ap, ◌∙◌, arith}
use borrow.Author.Tests.{leb-false}
use Rattle.paper.specs.Limits.{max_events}
use Rattle.general.specs.Cases.{cases}
use Rattle.flat_chart.specs.Chart.{Kind, condition, milestone, table, set_of, roles_of, Fit}
use Rattle.flat_chart.specs.Roles.{Permits, permits-so}
use Rattle.graph.specs.Fitness.{fit}
use Rattle.flat_chart.specs.Fitness.{fit-tested}
use Rattle.graph.specs.Steps.{stepping, stepping_by, testing, executing}
use Rattle.graph.specs.Overruled.{standing}
use Rattle.flat_chart.specs.Flat.{FlatChart}
use Rattle.graph.specs.Flat.{Marking}
use Rattle.chart.specs.Reading.{reading}
use Rattle.book.specs.Image.{book_of}
use Rattle.book.specs.ImageOf.{book-of-image}
use Rattle.derived.specs.Derived.{derived_book}
use Rattle.derived.specs.Overruled.{standing_of, same_after}
use Rattle.derived.proofs.OneChart as one
use Rattle.derived.specs.OneChart.{SameRelations}
use Rattle.deriver.specs.Deriving.{derived_image}
use Rattle.gathering.specs.Behind.{Sized, bare, bare-count, bare-one, bare-table}
use Rattle.gathering.proofs.Behind.{bare_set}
use Rattle.gathering.proofs.Behind as behind
use Rattle.promises.specs.Lists.{Permitted}

-- the books behind equal bytes are one
one-book : (c d : FlatChart) → derived_image c ≡ derived_image d → derived_book c ≡ derived_book d
one-book c d q = sym (book-of-image (derived_book c)) ∙ ap book_of q ∙ book-of-image (derived_book d)

-- "two fit flat charts whose derived books have the same bytes have the same event count and the same five relations. Marking and roles are left out."; request (xii): of
-- exclusions those that no inclusion overrules
pub no-two-charts : (c d : FlatChart) → Fit c → Fit d → derived_image c ≡ derived_image d → SameRelations c d
no-two-charts c d x y q = one.no-two-charts c d x y (one-book c d q)

-- the short way: both are what is gathered from the book
pub no-two-charts-short : (c d : FlatChart) → Fit c → Fit d → derived_image c ≡ derived_image d → SameRelations c d
no-two-charts-short c d x y q =
    let z : bare c ≡ bare d = behind.no-two-charts-short c d x y (one-book c d q) in
    record {
      count = sym (bare-count c) ∙ ap (λ (b : FlatChart). b.count) z ∙ bare-count d;
      relations = λ k e h. sym (bare_set c k e h) ∙ ap (λ (b : FlatChart). set_of b k e) z ∙ bare_set d k e h;
    }

-- of charts as the calls have them: the five tables are one, without the overruled exclusions
pub same_tables : (c d : FlatChart) → Sized c → Sized d → SameRelations c d → (k : Kind) → table (standing c) k ≡ table (standing d) k
same_tables c d x y s k = sym (bare-table c x k) ∙ ap (λ (b : FlatChart). table b k) (bare-one c d s) ∙ bare-table d y k

-- ---- what it is for: charts with the same relations, each event by roles that its chart permits, step alike

module _ (c d : FlatChart) (x : Fit c) (y : Fit d) (s : SameRelations c d) where
  fits-alike : (m : Marking) → fit c m ≡ fit d m
  unfolding fit
  fits-alike m = rw (fit-tested c x, fit-tested d y, s.count)

  pub step-alike : (m : Marking) (e r t : ℕ) → Permits (roles_of c e) r → Permits (roles_of d e) t → executing c m e r ≡ executing d m e t
  unfolding executing stepping_by stepping testing
  step-alike m e r t p q =
      rw (fits-alike m, s.count, (permits-so (roles_of c e) r).1 p, (permits-so (roles_of d e) t).1 q)
      (cases (leb d.count e) (λ l. rw l)
      (λ l. let h : e < d.count = leb-false d.count e l in
      let i : d.count ≤ max_events = y.few in
      let at : (k : Kind) → standing_of c k e ≡ standing_of d k e = λ k. s.relations k e (omega arith) in
      rw (at condition, at milestone, same_after c d m e (omega arith) at)))

-- along the steps, each an event and a role, from each marking to the next
abbrev pub StepAlike : FlatChart → FlatChart → Marking → List (ℕ × ℕ) → Type 0
StepAlike c d m [] = Unit {0}
StepAlike c d m (s ∷ steps) = (executing c m s.0 s.1 ≡ executing d m s.0 s.1) × StepAlike c d (executing c m s.0 s.1).marking steps

-- through the calls: two charts read from bytes, of which derive wrote the same book
pub record SameBookAlike (image other : List ℕ) : Type 0 where
  pub relations : SameRelations (reading image).chart (reading other).chart
  -- from equal markings they grant the same events, each by a role that it permits
  pub grants : (m : Marking) (e r t : ℕ) → Permits (roles_of (reading image).chart e) r → Permits (roles_of (reading other).chart e) t
      → ((executing (reading image).chart m e r).answer.code ≡ 0) ↔ ((executing (reading other).chart m e t).answer.code ≡ 0)
  -- and step alike along every list of events by roles that both permit
  pub steps : (m : Marking) (steps : List (ℕ × ℕ)) → Permitted (reading image).chart steps → Permitted (reading other).chart steps
      → StepAlike (reading image).chart (reading other).chart m steps
