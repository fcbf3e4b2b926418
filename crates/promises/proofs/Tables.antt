-- The rows of the paper's table for counting, the finished test, deriving and deriving a smaller book, and that each call answers exactly as they say. Assumes nothing.
use Prim.Native.Nat.{ℕ}
use Rattle.std.specs.Prelude.{◌≡◌, length}
use Rattle.std.proofs.Common.{arith}
use borrow.Author.Tests.{le-leb, lt-leb}
use Rattle.paper.specs.declared.Answer.{Answer}
use Rattle.general.specs.Cases.{not_so}
use Rattle.flat_chart.specs.Fitness.{fit-chart, fit-tested}
use Rattle.flat_chart.specs.Flat.{FlatChart}
use Rattle.deriver.specs.Deriving.{derived_image, deriving_answer}
use Rattle.promises.specs.Tables.{Derives, is_unfit, is_unfit, is_unfit, is_narrow, is_derived, is_unfit, is_narrow, is_derived}

pub derives-only : (c : FlatChart) (room : ℕ) {a : Answer} → Derives c room a → a ≡ deriving_answer c room
unfolding deriving_answer
derives-only c room (is_unfit n) = rw (not_so (λ t. n ((fit-chart c).0 t)))
derives-only c room (is_narrow f l) = rw (fit-tested c f, lt-leb (length (derived_image c)) room (omega arith))
derives-only c room (is_derived f l) = rw (fit-tested c f, le-leb (length (derived_image c)) room (omega arith))
