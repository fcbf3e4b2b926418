-- Request (ii), what those with old books want to hear: what the check passed before passes now, for every stage that the book has; and a rule that does
-- not count for a stage cannot fire in its completion, so leaving it out changes no snapshot. Assumes nothing.
use Rattle.std.specs.Prelude.{ℕ, ◌<◌, ◌≡◌, refl, List}
use Rattle.std.proofs.Common.{sym, subst, ◌∙◌, arith}
use Rattle.paper.specs.Answers.{granted}
use Rattle.order_theory.specs.Order.{NoLoop, counted-few}
use Rattle.order_theory.specs.Fewer.{Fewer, counted_of, IdleIn, run-counted, changes-counted}
use Rattle.order_theory.proofs.Fewer.{fewer-loops}
use Rattle.book.specs.Text.{Snap, snap_of}
use Rattle.book.specs.Book.{Book}
use Rattle.book.specs.Image.{stages_in, book_of}
use Rattle.rule_order.specs.Rules.{net_of, acts_of}
use Rattle.rule_order.specs.Nets.{rules_of, count-is}
use Rattle.judge.specs.Checking.{checking}
use Rattle.judge.proofs.Checking.{is-passed}
use Rattle.runner.specs.Walks.{Goes, turns, goes-run, goes_end, turns-run}
use Rattle.runner.specs.LeftOut.{uncounted-idle, struck-fit, left-out-same}
use Rattle.promises.specs.Demand3.{ready-passes}
use Rattle.promises.specs.Stages.{every_rule, PassedBefore, OldBooks}

fewer-than-all : (b : Book) (stage : ℕ) → Fewer (net_of b stage) (every_rule b)
unfolding net_of every_rule
fewer-than-all b stage = record { count = refl; target = λ r. refl; refers = λ r m. refl; counts = λ r e. refl }

no-loop-now : (b : Book) → NoLoop (every_rule b) → (stage : ℕ) → NoLoop (net_of b stage)
no-loop-now b h stage = fewer-loops (fewer-than-all b stage) h

passes-now : (book : List ℕ) (room : ℕ) → PassedBefore book room → (stage : ℕ) → stage < stages_in book → checking book stage room ≡ granted
passes-now book room p stage h =
    is-passed book stage room (record {
      formed = p.formed;
      acyclic = λ t i. no-loop-now (book_of book) p.acyclic t;
      calm = p.calm;
      known = h;
      wide = let w = p.wide in omega (arith, counted-few (rules_of book stage), count-is book stage);
    })

-- ---- what does not count may be left out of any list of rules

module _ (b : Book) (start : Snap) (stage : ℕ) (l : List ℕ) where
  idle : IdleIn (net_of b stage) (acts_of b start stage) l
  unfolding net_of acts_of
  idle q i e now = uncounted-idle b start stage now q e

  walk-without : (end : Snap) → Goes b start stage start l end → Goes b start stage start (counted_of (net_of b stage) l) end
  walk-without end g =
      subst (λ (u : Snap). Goes b start stage start (counted_of (net_of b stage) l) u)
      (run-counted (net_of b stage) (acts_of b start stage) l idle start ∙ sym (goes_end b start stage g))
      (goes-run b start stage (counted_of (net_of b stage) l) start)

  turns-without : (end : Snap) (g : Goes b start stage start l end) (h : Goes b start stage start (counted_of (net_of b stage) l) end) (m : ℕ)
      → turns b start stage h m ≡ turns b start stage g m
  turns-without end g h m =
      turns-run b start stage h m ∙ changes-counted (net_of b stage) (acts_of b start stage) l idle start m ∙ sym (turns-run b start stage g m)

pub old-books : OldBooks
unfolding net_of every_rule
old-books =
    record {
      none = λ book. no-loop-now (book_of book);
      passes = passes-now;
      waits = λ book start now stage r e. uncounted-idle (book_of book) start stage now r e;
      ends = λ book l snapshot stage. walk-without (book_of book) (snap_of snapshot.marks) stage l;
      turned = λ book l snapshot stage. turns-without (book_of book) (snap_of snapshot.marks) stage l;
      same = λ book k l snapshot stage y x f. left-out-same book (ready-passes y) snapshot stage y.opens k l x f;
      struck = λ book l stage f. struck-fit (book_of book) stage l f;
    }
