use Rattle.std.proofs.Common.{arith, refl, sym, ◌∙◌}
use Rattle.general.specs.Below.{tally}
use Rattle.general.specs.Lists.{flat}
use Rattle.smaller_deriver.specs.Marks.{free-few, mark-kept, mark-dropped}
use Rattle.smaller_deriver.proofs.marks.number_marks.Goals.{then-member, else-member}
use Rattle.smaller_deriver.proofs.marks.number_marks.Goals as goal

pub loop-e-init : goal.loop-e-init
unfolding tally flat
loop-e-init c = record { counted = omega arith; numbers = refl }

pub overflow_cast-table : goal.overflow_cast-table
overflow_cast-table c = omega (arith, free-few c.loop-e.invariant _ c.loop-e-test.true)

pub overflow_add-free : goal.overflow_add-free
overflow_add-free c = omega (arith, free-few c.loop-e.invariant _ c.loop-e-test.true)

pub loop-e-preserved : goal.loop-e-preserved
loop-e-preserved c = elim c.if-member.branch [
  | then-member w ↦ rw (w.table-is, w.free-is) (mark-kept c.loop-e.invariant (sym c.member.ensures ∙ w.if-member.true))
  | else-member w ↦ rw (w.table-is, w.free-is) (mark-dropped c.loop-e.invariant (sym c.member.ensures ∙ w.if-member.false))
]
