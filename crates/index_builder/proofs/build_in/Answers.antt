-- `index_builder::build_in`: a law for each return.
use Rattle.std.proofs.Common.{arith}
use Rattle.judge.proofs.Returns.{thrown_on}
use Rattle.index_builder.proofs.Returns.{counts-asks, index-ready, index-sized, need-is, need-small, untouched, book-stops, build-narrow, narrow-kept, build-granted, build-built}
use Rattle.index_builder.proofs.build_in.Goals as goal

pub returns-in_err-counts-clause-answer : goal.returns-in_err-counts-clause-answer
returns-in_err-counts-clause-answer c = thrown_on _ _ c.from_residual.ensures.1 _ (book-stops _ _ _ c.in_err-counts.ensures.answer)

pub returns-in_err-counts-clause-room : goal.returns-in_err-counts-clause-room
returns-in_err-counts-clause-room c = untouched _ _ _ (book-stops _ _ _ c.in_err-counts.ensures.answer)

pub of-sizes-requires : goal.of-sizes-requires
of-sizes-requires c = counts-asks _ _ c.in_ok-counts.ensures.passes

pub index_size-need-requires : goal.index_size-need-requires
index_size-need-requires c = index-sized _ _ c.in_ok-counts.ensures.passes _ _ c.of-sizes.ensures

pub overflow_cast-result : goal.overflow_cast-result
overflow_cast-result c = omega (arith, need-small _ _ c.in_ok-counts.ensures.passes _ _ c.of-sizes.ensures _ c.index_size-need.ensures)

pub returns-then-room-need-clause-answer : goal.returns-then-room-need-clause-answer
returns-then-room-need-clause-answer c =
    let p = c.in_ok-counts.ensures.passes in
    build-narrow _ _ _ p _ (need-is _ _ p _ _ c.of-sizes.ensures _ c.index_size-need.ensures) c.if-room-need.true

pub returns-then-room-need-clause-room : goal.returns-then-room-need-clause-room
returns-then-room-need-clause-room c =
    let p = c.in_ok-counts.ensures.passes in
    narrow-kept _ _ _ p _ (need-is _ _ p _ _ c.of-sizes.ensures _ c.index_size-need.ensures) c.if-room-need.true

pub put_index-requires : goal.put_index-requires
put_index-requires c =
    let p = c.in_ok-counts.ensures.passes in
    let n = need-is _ _ p _ _ c.of-sizes.ensures _ c.index_size-need.ensures in
    (index-ready _ _ p _ _ c.of-sizes.ensures, omega (arith, n, c.if-room-need.false))

pub returns-clause-answer : goal.returns-clause-answer
returns-clause-answer c =
    let p = c.in_ok-counts.ensures.passes in
    build-granted _ _ _ p _ (need-is _ _ p _ _ c.of-sizes.ensures _ c.index_size-need.ensures) c.if-room-need.false

pub returns-clause-room : goal.returns-clause-room
returns-clause-room c =
    let p = c.in_ok-counts.ensures.passes in
    build-built _ _ _ p _ (need-is _ _ p _ _ c.of-sizes.ensures _ c.index_size-need.ensures) c.if-room-need.false _ _ c.put_index.ensures
