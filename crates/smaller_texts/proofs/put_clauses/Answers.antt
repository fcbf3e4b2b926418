use Rattle.std.proofs.Common.{arith, refl}
use Rattle.smaller.specs.Loops.{rest_some, rest-none}
use Rattle.smaller_texts.proofs.Texts.{run_end, run_short, run_fits, turn-start, turn-done, turn-lt, turn-fits, turn-falls, turn_more}
use Rattle.smaller_texts.proofs.put_clauses.Goals as goal

pub overflow_mul-end : goal.overflow_mul-end
overflow_mul-end c = omega (arith, run_end _ _ _ _ _ c.requires.3 _ _ _ c.clause_words.ensures c.requires.4)

pub overflow_add-end : goal.overflow_add-end
overflow_add-end c = omega (arith, run_end _ _ _ _ _ c.requires.3 _ _ _ c.clause_words.ensures c.requires.4)

pub returns-then-room-end : goal.returns-then-room-end
returns-then-room-end c = run_short _ _ _ _ _ c.requires.3 _ _ _ c.clause_words.ensures _ _ refl c.if-room-end.true

pub loop-guards-init : goal.loop-guards-init
loop-guards-init c = search (turn-start, run_fits)

pub put_clause-next-requires : goal.put_clause-next-requires
put_clause-next-requires c =
    turn-fits c.loop-guards.invariant (rest_some _ _ c.is_empty.ensures c.loop-guards-test.true) c.least-f.ensures _ _ _ c.member.ensures refl refl

pub one-requires : goal.one-requires
one-requires c = omega (arith, turn-lt c.loop-guards.invariant (rest_some _ _ c.is_empty.ensures c.loop-guards-test.true) c.least-f.ensures)

pub loop-guards-smaller : goal.loop-guards-smaller
loop-guards-smaller c =
    turn-falls c.loop-guards.invariant (rest_some _ _ c.is_empty.ensures c.loop-guards-test.true) c.least-f.ensures c.one.ensures c.less-rest.ensures

pub loop-guards-preserved : goal.loop-guards-preserved
loop-guards-preserved c =
    turn_more c.loop-guards.invariant (rest_some _ _ c.is_empty.ensures c.loop-guards-test.true) c.least-f.ensures _ _ _ c.member.ensures refl refl
    c.one.ensures c.less-rest.ensures c.put_clause-next.ensures

pub returns : goal.returns
returns c = turn-done c.loop-guards.invariant (rest-none _ _ c.is_empty.ensures c.loop-guards-test.false)
