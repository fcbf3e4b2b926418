use Rattle.std.proofs.Common.{◌≡◌}
use Rattle.general.specs.Below.{tally}
use Rattle.mend_writer.specs.Steps.{changed_at}
use Rattle.mend_writer.specs.Numbers.{step_number}
use Rattle.mend_writer.proofs.Repair.count_step.Given as goal

abbrev pub invariant-loop-i : goal.invariant-loop-i
invariant-loop-i l = l.count ≡ tally l.i (changed_at l.self.image.bytes.now (step_number l.step))
