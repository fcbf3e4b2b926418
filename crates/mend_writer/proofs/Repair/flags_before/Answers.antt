use Rattle.mend_writer.specs.Bytes.{flags-first, flags-group, flags-known}
use Rattle.mend_writer.proofs.Repair.flags_before.Goals as goal

pub returns-then-not-is_after : goal.returns-then-not-is_after
returns-then-not-is_after c = flags-first _ _ _ _ c.flags_of-flags.ensures c.is_after.ensures c.if-not-is_after.true

pub returns-then-is_after-self : goal.returns-then-is_after-self
returns-then-is_after-self c = flags-group _ _ _ _ c.flags_of-flags.ensures c.is_after.ensures c.if-not-is_after.false c.is_after-2.ensures c.args.self.ready.left c.requires c.if-is_after-self.true

pub returns : goal.returns
returns c = flags-known _ _ _ _ c.flags_of-flags.ensures c.is_after.ensures c.if-not-is_after.false c.is_after-2.ensures c.args.self.ready.left c.requires c.if-is_after-self.false c.known_flags.ensures
