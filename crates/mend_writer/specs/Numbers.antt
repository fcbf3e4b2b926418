-- The number of each step, and what an entry of the code is. Assumes nothing.
use Rattle.std.specs.Prelude.{ℕ}
use Rattle.paper.specs.Limits.{mend_parent, mend_flags, mend_loop, mend_group, mend_relation}
use Rattle.mending.specs.Mending.{Change}
use Rattle.mend_writer.specs.declared.step.Step.{Step}
use Rattle.mend_writer.specs.declared.step.Step.TheVariants.{Parent, Flags, Loop, Group, Relation}
use Rattle.mend_writer.specs.declared.Change as code-change

abbrev pub step_number : Step → ℕ
step_number Parent = mend_parent
step_number Flags = mend_flags
step_number Loop = mend_loop
step_number Group = mend_group
step_number Relation = mend_relation

abbrev pub change_of : code-change.Change → Change
change_of c = record { step = step_number c.step; number = c.number; first = c.first; second = c.second; third = c.third }
