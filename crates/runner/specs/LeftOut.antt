-- Old books: a rule that is left out for a stage cannot fire in that stage's completion, so that leaving it out changes no snapshot. Assumes nothing.
use Rattle.std.specs.Prelude.{◌≡◌, false, ℕ}
use Rattle.std.proofs.Math.Path.{refl}
use Rattle.std.proofs.Common.{sym, ap, ◌∙◌}
use mathlib.Core.List.{List, [], ◌∷◌}
use Rattle.general.specs.Cases.{contra}
use Rattle.order_theory.specs.Order.{Net, Fit}
use Rattle.order_theory.specs.Settle.{Acts, step, run}
use Rattle.order_theory.specs.Fewer.{all_counted, LeavesOut, counted_of}
use Rattle.order_theory.proofs.Fewer.{fewer-all, left_out, fewer-fit}
use Rattle.book.specs.Text.{Snap, snap_of}
use Rattle.book.specs.Book.{Book, rule_of}
use Rattle.book.specs.Image.{book_of}
use Rattle.book.specs.Firing.{triggered, fires, fires-local}
use Rattle.book.specs.declared.Snapshot.{Snapshot}
use Rattle.book.specs.declared.Trigger.{Trigger}
use Rattle.book.specs.declared.Trigger.TheVariants.{None, Completed, BecomeYes, BecomeNo}
use Rattle.rule_order.specs.Rules.{counted, net_of, acts_of}
use Rattle.rule_order.specs.Nets.{rules_of}
use Rattle.clashes.specs.Clash.{calm}
use Rattle.runner.specs.Completing.{completing}
use Rattle.runner.specs.Walks.{Goes, goes_end}
use Rattle.runner.specs.Table.{Passes}
use Rattle.runner.specs.Completion.{Open, completes}

-- ---- it cannot fire

-- what is not counted waits for another stage's completion
other-completion : (start : Snap) (stage : ℕ) (t : Trigger) (now : Snap) → counted stage t ≡ false → triggered start stage t now ≡ false
unfolding counted triggered
other-completion start stage None now e = contra refl e
other-completion start stage (Completed c) now e = e
other-completion start stage (BecomeYes m) now e = contra refl e
other-completion start stage (BecomeNo m) now e = contra refl e

pub uncounted-idle : (b : Book) (start : Snap) (stage : ℕ) (now : Snap) (r : ℕ) → counted stage (rule_of b r).trigger ≡ false → fires b start stage now r ≡ false
unfolding fires
uncounted-idle b start stage now r e = rw (other-completion start stage (rule_of b r).trigger now e)

-- ---- so the whole book, all its rules in an order that respects "comes before", makes the same of every snapshot

-- every rule of the book in turn, as orders were before stages had their own
abbrev pub whole_book : Book → ℕ → Net
whole_book b stage = all_counted (net_of b stage)

whole_acts : (b : Book) (start : Snap) (stage : ℕ) → Acts (whole_book b stage)
unfolding net_of
whole_acts b start stage = record { effect = λ r. (rule_of b r).effect; fires = fires b start stage; local = λ s u r h. fires-local b start stage s u r h }

module _ (b : Book) (start : Snap) (stage : ℕ) where
  -- a turn is the same, counted or not
  run-whole : (l : List ℕ) (now : Snap) → run (whole_book b stage) (whole_acts b start stage) now l ≡ run (net_of b stage) (acts_of b start stage) now l
  unfolding run step net_of acts_of whole_acts
  run-whole [] now = refl
  run-whole (r ∷ l) now = run-whole l (step (net_of b stage) (acts_of b start stage) now r)

  leaves-out : LeavesOut (net_of b stage) (whole_book b stage) (acts_of b start stage) (whole_acts b start stage)
  unfolding net_of acts_of whole_acts
  leaves-out = record { fewer = fewer-all (net_of b stage); effect = λ r. refl; fires = λ now r. refl; idle = λ r c e now. uncounted-idle b start stage now r e }

-- an old order without the rules that are left out is a fit order of the stage
pub struck-fit : (b : Book) (stage : ℕ) (l : List ℕ) → Fit (whole_book b stage) l → Fit (net_of b stage) (counted_of (net_of b stage) l)
struck-fit b stage l f = fewer-fit (net_of b stage) (whole_book b stage) (fewer-all (net_of b stage)) l f

-- completing along any fit order of the stage ends where the walk through all rules of the book ends, along any order that respects them
pub left-out-same : (s : List ℕ) → Passes s → (snapshot : Snapshot) (stage : ℕ) → Open s snapshot stage → (k l : List ℕ) → Fit (rules_of s stage) k → Fit (whole_book (book_of s) stage) l
    → (end : Snap) → Goes (book_of s) (snap_of snapshot.marks) stage (snap_of snapshot.marks) l end
    → (m : ℕ) → snap_of (completing s k snapshot stage).snapshot.marks m ≡ end m
left-out-same s p snapshot stage o k l x y end g m =
    let b : Book = book_of s in
    let start : Snap = snap_of snapshot.marks in
    let e = goes_end b start stage (completes s p snapshot stage o k x).fires in
    let f = goes_end b start stage g ∙ sym (run-whole b start stage l start) in
    ap (λ (u : Snap). u m) e ∙ left_out (leaves-out b start stage) k l x y (calm b start stage p.calm) start m ∙ sym (ap (λ (u : Snap). u m) f)
