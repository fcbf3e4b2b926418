use Rattle.std.proofs.Common.{arith}
use Rattle.mend_writer.specs.Bytes.{four-steps}
use Rattle.mend_writer.proofs.Repair.count_steps.Goals as goal

pub returns : goal.returns
returns c = (four-steps _ _ c.count_step-parents.ensures.0 c.count_step-flags.ensures.0 c.count_step-loops.ensures.0 c.count_step-groups.ensures.0, omega arith)
