use Rattle.mend_writer.specs.Bytes.{entries-all}
use Rattle.mend_writer.proofs.Repair.count_entries.Goals as goal

pub returns : goal.returns
returns c = entries-all _ _ _ _ _ c.args.self.ready.whole c.count_steps.ensures.0 c.count_steps.ensures.1 c.args.self.stays
