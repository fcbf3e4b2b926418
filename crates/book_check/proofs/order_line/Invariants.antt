use Rattle.std.proofs.Common.{◌+◌, ◌*◌, ◌<◌}
use Rattle.printing.specs.Filling.{Put}
use Rattle.book_check.proofs.order_line.Given as goal

abbrev pub invariant-loop-number : goal.invariant-loop-number
invariant-loop-number g l = (l.next < 4096) × (Put (5 + 21 * l.number-index) l.at l.next l.fn.buffer l.buffer)
