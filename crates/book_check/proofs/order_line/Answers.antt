-- Number after number is put, and the one that fills the buffer may not be written. Assumes nothing.
use Rattle.std.proofs.Common.{arith}
use Rattle.printing.proofs.Filling.{put-then, put-more, full-then, full-more, full-last-call, on-err}
use Rattle.book_check.proofs.order_line.Goals as goal

pub returns-in_err-next-clause-err : goal.returns-in_err-next-clause-err
returns-in_err-next-clause-err g c = on-err c.from_residual.result (full-more c.in_err-next.ensures.err (omega arith))

pub returns-in_err-next-2-clause-err : goal.returns-in_err-next-2-clause-err
returns-in_err-next-2-clause-err g c =
    on-err c.from_residual-in_err-next-2.result (full-more (full-then c.loop-number.invariant.1 c.in_err-next-2.ensures.err) (omega arith))

pub loop-number-preserved : goal.loop-number-preserved
loop-number-preserved g c =
    (c.in_ok-next-2.ensures.ok, put-more (put-then c.loop-number.invariant.1 c.in_ok-next-2.ensures.put) (omega arith))

pub returns-clause-err : goal.returns-clause-err
returns-clause-err g c = full-last-call _ _ _ c.text-2.result c.loop-number.invariant.1 (omega arith) c.text-2.ensures.err
