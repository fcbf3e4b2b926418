use Rattle.std.proofs.Common.{arith}
use Rattle.general.specs.Numbering.{tally-none, byte_le}
use Rattle.general.specs.Below.{tally-le}
use Rattle.mend_writer.specs.Steps.{changed_at}
use Rattle.mend_writer.specs.Numbers.{step_number}
use Rattle.mend_writer.specs.Bytes.{count-more, count-all}
use Rattle.mend_writer.proofs.Repair.count_step.Goals as goal

pub loop-i-init : goal.loop-i-init
loop-i-init c = tally-none _

pub overflow_add-count : goal.overflow_add-count
overflow_add-count c = record {
  fits = let e = tally-le c.loop-i.i (changed_at c.args.self.image.bytes.now (step_number c.args.step)) in let b = byte_le c.changed_at.result in let w = c.args.self.ready.whole.few in omega arith;
}

pub loop-i-preserved : goal.loop-i-preserved
loop-i-preserved c = count-more _ _ _ _ _ c.loop-i.invariant c.changed_at.ensures

pub returns : goal.returns
returns c = count-all _ _ _ _ _ c.args.self.ready.whole.few (omega arith) c.loop-i-test.false c.loop-i.invariant
