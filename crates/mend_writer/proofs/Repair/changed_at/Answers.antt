use Rattle.std.proofs.Common.{inl, inr, ◌<◌, arith}
use Rattle.paper.specs.Limits.{mend_loop}
use Rattle.mend_writer.specs.Bytes.{changed-parent, changed-flags, changed-loop, changed-group}
use Rattle.mend_writer.specs.Numbers.{step_number}
use Rattle.mend_writer.proofs.Repair.changed_at.Goals as goal

pub returns-in-Parent : goal.returns-in-Parent
returns-in-Parent c = rw c.in-Parent.is (changed-parent _ _ c.missing_at.ensures)

pub returns-in-Flags : goal.returns-in-Flags
returns-in-Flags c = rw c.in-Flags.is (changed-flags _ _ _ _ c.flags_of-flags.ensures c.known_flags.ensures)

pub returns-in-Loop : goal.returns-in-Loop
returns-in-Loop c = rw c.in-Loop.is (changed-loop _ _ c.args.self.ready.cuts c.requires)

pub returns-in-Group : goal.returns-in-Group
returns-in-Group c =
    let l : mend_loop < step_number c.args.step = elim c.in-Group.is [ inl h ↦ rw h (omega arith) | inr h ↦ rw h (omega arith) ] in
    changed-group _ _ (step_number c.args.step) l c.args.self.ready.left c.requires c.flags_of-flags.ensures
