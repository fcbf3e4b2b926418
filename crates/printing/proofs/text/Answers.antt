-- Byte after byte is put, and the one that fills the buffer may not be written. Assumes nothing.
use Rattle.std.proofs.Common.{arith}
use Rattle.printing.proofs.Filling.{put-none, put-then, put-more, full-then, full-more, on-err}
use Rattle.printing.proofs.text.Goals as goal

pub loop-b-init : goal.loop-b-init
loop-b-init g c = (c.requires, put-none)

pub loop-b-preserved : goal.loop-b-preserved
loop-b-preserved g c = (c.in_ok-next.ensures.ok, put-then c.loop-b.invariant.1 c.in_ok-next.ensures.put)

pub returns-in_err-next-clause-err : goal.returns-in_err-next-clause-err
returns-in_err-next-clause-err g c = on-err c.from_residual.result (full-more (full-then c.loop-b.invariant.1 c.in_err-next.ensures.err) (omega arith))

pub returns-clause-put : goal.returns-clause-put
returns-clause-put g c = put-more c.loop-b.invariant.1 (omega arith)
