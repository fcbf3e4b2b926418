-- One byte is put, and where the room is full it is the last. Assumes nothing.
use Rattle.std.proofs.Common.{refl, arith}
use Rattle.printing.proofs.Filling.{put-within, put-last, full-last, on-err}
use Rattle.printing.proofs.byte.Goals as goal

pub returns-then-next-lt-ROOM-clause-put : goal.returns-then-next-lt-ROOM-clause-put
returns-then-next-lt-ROOM-clause-put g c = put-within c.args.b (omega (arith, c.if-next-lt-ROOM.true)) (omega arith) refl

pub returns-in_err-write_all-clause-err : goal.returns-in_err-write_all-clause-err
returns-in_err-write_all-clause-err g c =
    on-err c.from_residual.result (full-last c.args.b (omega (arith, c.if-next-lt-ROOM.false)) refl)

pub returns-clause-put : goal.returns-clause-put
returns-clause-put g c = put-last c.args.b (omega (arith, c.if-next-lt-ROOM.false)) refl
