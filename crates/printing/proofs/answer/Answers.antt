-- Each part is put behind the one before. Assumes nothing.
use Rattle.std.proofs.Common.{arith}
use Rattle.printing.proofs.Filling.{put-then, full-then, full-more, put-last-call, full-last-call, on-err}
use Rattle.printing.proofs.answer.Goals as goal

pub returns-in_err-b-clause-err : goal.returns-in_err-b-clause-err
returns-in_err-b-clause-err g c = on-err c.from_residual.result (full-more c.in_err-b.ensures.err (omega arith))

pub returns-in_err-c-clause-err : goal.returns-in_err-c-clause-err
returns-in_err-c-clause-err g c =
    let puts = c.in_ok-b.ensures.put in
    on-err c.from_residual-in_err-c.result (full-more (full-then puts c.in_err-c.ensures.err) (omega arith))

pub returns-in_err-d-clause-err : goal.returns-in_err-d-clause-err
returns-in_err-d-clause-err g c =
    let puts = put-then c.in_ok-b.ensures.put c.in_ok-c.ensures.put in
    on-err c.from_residual-in_err-d.result (full-more (full-then puts c.in_err-d.ensures.err) (omega arith))

pub returns-in_err-e-clause-err : goal.returns-in_err-e-clause-err
returns-in_err-e-clause-err g c =
    let puts = put-then (put-then c.in_ok-b.ensures.put c.in_ok-c.ensures.put) c.in_ok-d.ensures.put in
    on-err c.from_residual-in_err-e.result (full-more (full-then puts c.in_err-e.ensures.err) (omega arith))

pub returns-clause-put : goal.returns-clause-put
returns-clause-put g c =
    let puts = put-then (put-then (put-then c.in_ok-b.ensures.put c.in_ok-c.ensures.put) c.in_ok-d.ensures.put) c.in_ok-e.ensures.put in
    put-last-call _ _ _ c.text-2.result puts (omega arith) c.text-2.ensures.put

pub returns-clause-err : goal.returns-clause-err
returns-clause-err g c =
    let puts = put-then (put-then (put-then c.in_ok-b.ensures.put c.in_ok-c.ensures.put) c.in_ok-d.ensures.put) c.in_ok-e.ensures.put in
    full-last-call _ _ _ c.text-2.result puts (omega arith) c.text-2.ensures.err
