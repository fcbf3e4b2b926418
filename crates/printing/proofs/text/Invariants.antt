use Rattle.std.proofs.Common.{◌<◌}
use Rattle.printing.specs.Filling.{Put}
use Rattle.printing.proofs.text.Given as goal

abbrev pub invariant-loop-b : goal.invariant-loop-b
invariant-loop-b g l = (l.next < 4096) × (Put l.b-index l.at l.next l.fn.buffer l.buffer)
