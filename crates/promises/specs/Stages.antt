-- Request (ii), what those with old books want to hear: what the check passed before passes now, for every stage that the book has; and a rule that does
-- not count for a stage cannot fire in its completion, so leaving it out changes no snapshot. Assumes nothing.
use Rattle.std.specs.Prelude.{ℕ, ◌≤◌, ◌<◌, ◌≡◌, true, false, List, length}
use Rattle.paper.specs.Answers.{granted}
use Rattle.order_theory.specs.Order.{Net, Fit, NoLoop}
use Rattle.order_theory.specs.Fewer.{counted_of}
use Rattle.book.specs.Text.{Snap, snap_of}
use Rattle.book.specs.Book.{Book, rule_of}
use Rattle.book.specs.Firing.{refers, fires}
use Rattle.book.specs.Image.{stages_in, rules_in, book_of}
use Rattle.book.specs.WellFormed.{WellFormed}
use Rattle.book.specs.declared.Snapshot.{Snapshot}
use Rattle.rule_order.specs.Nets.{rules_of}
use Rattle.clashes.specs.Clash.{NoClash}
use Rattle.judge.specs.Checking.{checking}
use Rattle.runner.specs.Completing.{completing}
use Rattle.runner.specs.Walks.{turns}
use Rattle.promises.specs.Demand3.{Ready, Walk}

-- ---- the check as it was

-- "our paper judges the whole book": every rule counts
unfoldable pub every_rule : Book → Net
every_rule b = record { count = length b.rules; counts = λ r. true; target = λ r. (rule_of b r).target; refers = refers b }

-- what the check asked of a book and of its room before the request: a room for all rules, and no loop among them
pub record PassedBefore (book : List ℕ) (room : ℕ) : Type 0 where
  pub formed : WellFormed book
  pub acyclic : NoLoop (every_rule (book_of book))
  pub calm : NoClash (book_of book)
  pub wide : rules_in book ≤ room

pub record OldBooks : Type 0 where
  -- a book whose rules form no loop over the whole book has none for any stage
  pub none : (book : List ℕ) → NoLoop (every_rule (book_of book)) → (stage : ℕ) → NoLoop (rules_of book stage)
  -- so whatever passed before passes now, for every stage that it has and in the same room
  pub passes : (book : List ℕ) (room : ℕ) → PassedBefore book room → (stage : ℕ) → stage < stages_in book → checking book stage room ≡ granted
  -- a rule that is left out for a stage cannot fire in its completion
  pub waits : (book : List ℕ) (start now : Snap) (stage r : ℕ) → (rules_of book stage).counts r ≡ false → fires (book_of book) start stage now r ≡ false
  -- so leaving all such out changes no snapshot, in any book and any list of rules, fit or not: the walk along the others ends where the walk along all ends
  pub ends : (book l : List ℕ) (snapshot : Snapshot) (stage : ℕ) (end : Snap) → Walk book snapshot stage l end
      → Walk book snapshot stage (counted_of (rules_of book stage) l) end
  -- and no change of a mark is lost or added on the way
  pub turned : (book l : List ℕ) (snapshot : Snapshot) (stage : ℕ) (end : Snap) (all : Walk book snapshot stage l end)
      (others : Walk book snapshot stage (counted_of (rules_of book stage) l) end) (m : ℕ)
      → turns (book_of book) (snap_of snapshot.marks) stage others m ≡ turns (book_of book) (snap_of snapshot.marks) stage all m
  -- in a book without a loop over the whole book: completing along any fit order of the stage ends where the walk through all rules ends, in any order that was fit before
  pub same : (book k l : List ℕ) (snapshot : Snapshot) (stage : ℕ) → Ready book snapshot stage → Fit (rules_of book stage) k → Fit (every_rule (book_of book)) l
      → (end : Snap) → Walk book snapshot stage l end → (m : ℕ) → snap_of (completing book k snapshot stage).snapshot.marks m ≡ end m
  -- and an order that was fit before is a fit one of the stage without the rules that are left out
  pub struck : (book l : List ℕ) (stage : ℕ) → Fit (every_rule (book_of book)) l → Fit (rules_of book stage) (counted_of (rules_of book stage) l)
