-- The line of the counts is put, and then that of the order. Assumes nothing.
use Rattle.std.proofs.Common.{arith}
use Rattle.printing.proofs.Filling.{full-more, full-last-call, on-err}
use Rattle.book_check.proofs.passed_lines.Goals as goal

pub returns-in_err-a-clause-err : goal.returns-in_err-a-clause-err
returns-in_err-a-clause-err g c = on-err c.from_residual.result (full-more c.in_err-a.ensures.err (omega arith))

pub returns-clause-err : goal.returns-clause-err
returns-clause-err g c = full-last-call _ _ _ c.order_line.result c.in_ok-a.ensures.put (omega (arith, c.counted_rules-counted.ensures)) c.order_line.ensures.err
