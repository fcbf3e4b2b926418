-- `indexed::running::go_through_index`: the rules that had their turn.
use Rattle.std.proofs.Common.{◌≡◌}
use Rattle.book.specs.Image.{book_of}
use Rattle.index.specs.Index.{order_of}
use Rattle.runner.proofs.Turns.{Going}
use Rattle.indexed.proofs.running.go_through_index.Given as goal

abbrev pub invariant-loop-j : goal.invariant-loop-j
invariant-loop-j l =
    record {
      counted : l.evaluated ≡ l.j;
      gone : Going l.book (order_of (book_of l.book) l.stage) l.start l.stage l.initial.held.marks l.held.marks l.j;
    }
