use Rattle.std.proofs.Common.{◌*◌}
use Rattle.unwritten.specs.Words.{AllWritten}
use Rattle.unwritten.proofs.written.write_all.Given as goal

abbrev pub invariant-loop-w : goal.invariant-loop-w
invariant-loop-w l = AllWritten (64 * l.w) l.written
