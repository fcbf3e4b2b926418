-- `index::write::put_orders`: the stages so far.
use Rattle.general.specs.Writing.{Runs}
use Rattle.book.specs.Image.{book_of}
use Rattle.index.specs.Index.{order_bytes}
use Rattle.index.proofs.write.put_orders.Given as goal

abbrev pub invariant-loop-stage : goal.invariant-loop-stage
invariant-loop-stage l = Runs (order_bytes (book_of l.image)) l.fn.head.stages l.fn.room l.at l.stage l.next l.room
