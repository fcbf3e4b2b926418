-- The name is put, and then the digits, of which there are 20 at most. Assumes nothing.
use Rattle.std.proofs.Common.{arith}
use Rattle.printing.proofs.Filling.{full-more, put-last-call, full-last-call, on-err}
use Rattle.printing.proofs.named.Goals as goal

pub returns-in_err-next-clause-err : goal.returns-in_err-next-clause-err
returns-in_err-next-clause-err g c = on-err c.from_residual.result (full-more c.in_err-next.ensures.err (omega arith))

pub returns-clause-put : goal.returns-clause-put
returns-clause-put g c =
    let d = c.decimal-k in
    put-last-call _ _ _ c.text-2.result c.in_ok-next.ensures.put (omega (arith, d.ensures.in_bounds.0, d.ensures.in_bounds.1, d.array_long)) c.text-2.ensures.put

pub returns-clause-err : goal.returns-clause-err
returns-clause-err g c =
    let d = c.decimal-k in
    full-last-call _ _ _ c.text-2.result c.in_ok-next.ensures.put (omega (arith, d.ensures.in_bounds.0, d.ensures.in_bounds.1, d.array_long)) c.text-2.ensures.err
