use Rattle.mend_writer.specs.Bytes.{parent-gone, parent-stays}
use Rattle.mend_writer.proofs.Repair.parent_before.Goals as goal

pub returns-then-is_after-missing : goal.returns-then-is_after-missing
returns-then-is_after-missing c = parent-gone _ _ _ c.args.self.ready.cuts c.requires c.missing_at-missing.ensures c.is_after.ensures c.is_after-2.ensures c.if-is_after-missing.true

pub returns : goal.returns
returns c = parent-stays _ _ _ c.args.self.ready.cuts c.requires c.missing_at-missing.ensures c.is_after.ensures c.is_after-2.ensures c.if-is_after-missing.false c.parent_of.ensures
