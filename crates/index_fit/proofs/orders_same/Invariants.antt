-- `index_fit::orders_same`: the stages so far.
use Rattle.general.specs.Comparing.{Stand}
use Rattle.book.specs.Image.{book_of}
use Rattle.index.specs.Index.{order_bytes}
use Rattle.index_fit.proofs.orders_same.Given as goal

abbrev pub invariant-loop-stage : goal.invariant-loop-stage
invariant-loop-stage l = Stand (order_bytes (book_of l.image)) l.fn.head.stages l.index l.at l.stage l.next
