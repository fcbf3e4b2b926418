use Rattle.std.proofs.Common.{arith}
use Rattle.smaller_deriver.specs.Marks.{run-few, number-done}
use Rattle.smaller_deriver.proofs.marks.number.Goals as goal

pub number_marks-b-requires : goal.number_marks-b-requires
number_marks-b-requires c = (omega arith, omega (arith, run-few _ _ _ _ 0 c.number_marks-a.ensures.0 (omega arith)))

pub number_marks-c-requires : goal.number_marks-c-requires
number_marks-c-requires c = (
  omega arith,
  omega (arith, run-few _ _ _ _ _ c.number_marks-b.ensures.0 (run-few _ _ _ _ 0 c.number_marks-a.ensures.0 (omega arith))),
)

pub number_marks-d-requires : goal.number_marks-d-requires
number_marks-d-requires c = (
  omega arith,
  omega (
    arith,
    run-few _ _ _ _ _ c.number_marks-c.ensures.0 (run-few _ _ _ _ _ c.number_marks-b.ensures.0 (run-few _ _ _ _ 0 c.number_marks-a.ensures.0 (omega arith))),
  ),
)

pub returns : goal.returns
returns c =
    number-done _ _ _ _ _ _ _ _ _ _ _ _ _ c.all_below.ensures c.number_marks-a.ensures c.number_marks-b.ensures c.number_marks-c.ensures
    c.number_marks-d.ensures
