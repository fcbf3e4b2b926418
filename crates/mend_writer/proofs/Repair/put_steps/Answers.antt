use Rattle.mend_writer.specs.Bytes.{step-fits-1, step-fits-2, step-fits-3, step-fits-4, steps-wrote}
use Rattle.mend_writer.proofs.Repair.put_steps.Goals as goal

pub put_step-parents-requires : goal.put_step-parents-requires
put_step-parents-requires c = step-fits-1 _ _ _ c.requires

pub put_step-flags-requires : goal.put_step-flags-requires
put_step-flags-requires c = step-fits-2 _ _ _ c.requires c.put_step-parents.ensures

pub put_step-loops-requires : goal.put_step-loops-requires
put_step-loops-requires c = step-fits-3 _ _ _ c.requires c.put_step-parents.ensures c.put_step-flags.ensures

pub put_step-requires : goal.put_step-requires
put_step-requires c = step-fits-4 _ _ _ c.requires c.put_step-parents.ensures c.put_step-flags.ensures c.put_step-loops.ensures

pub returns : goal.returns
returns c = steps-wrote _ _ _ c.requires c.put_step-parents.ensures c.put_step-flags.ensures c.put_step-loops.ensures c.put_step.ensures
