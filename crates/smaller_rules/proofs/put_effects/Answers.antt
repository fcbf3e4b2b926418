use Rattle.std.proofs.Common.{arith, rules, refl}
use Rattle.derived.specs.WritingLoops.{turn-start, turn-done, turn-lt, turn-fits, turn-falls, turn_more}
use Rattle.smaller.specs.Loops.{rest_some, rest-none}
use Rattle.smaller_rules.proofs.Running.{effect-fits, effect-wrote, effects-short, effects-fit, effects-wrote}
use Rattle.smaller_rules.proofs.put_effects.Goals as goal

pub returns-then-room-end : goal.returns-then-room-end
returns-then-room-end c = search effects-short

pub loop-raise-init : goal.loop-raise-init
loop-raise-init c = search (rules, turn-start)

pub bounds-kept-base : goal.bounds-kept-base
bounds-kept-base c =
    omega (arith, turn-lt _ _ _ _ _ _ _ _ _ c.requires.0 c.loop-raise.invariant _ (rest_some _ _ c.is_empty.ensures c.loop-raise-test.true) c.least-f.ensures)

pub put_on-next-requires : goal.put_on-next-requires
put_on-next-requires c =
    let some = rest_some _ _ c.is_empty.ensures c.loop-raise-test.true in
    let below = turn-lt _ _ _ _ _ _ _ _ _ c.requires.0 c.loop-raise.invariant _ some c.least-f.ensures in (
      omega arith,
      search rules,
      effect-fits _ _ _ _ _ _ _
          (turn-fits _ _ _ _ _ _ _ _ _ c.requires.0 c.loop-raise.invariant _ some c.least-f.ensures
          (effects-fit _ _ _ _ _ _ _ c.requires.3 c.count.ensures _ _ c.if-room-end.false)),
    )

pub one-requires : goal.one-requires
one-requires c =
    omega (arith, turn-lt _ _ _ _ _ _ _ _ _ c.requires.0 c.loop-raise.invariant _ (rest_some _ _ c.is_empty.ensures c.loop-raise-test.true) c.least-f.ensures)

pub loop-raise-smaller : goal.loop-raise-smaller
loop-raise-smaller c =
    turn-falls _ _ _ _ _ _ _ _ _ c.requires.0 c.loop-raise.invariant _ (rest_some _ _ c.is_empty.ensures c.loop-raise-test.true) c.least-f.ensures _ _ c.one.ensures c.less-rest.ensures

pub loop-raise-preserved : goal.loop-raise-preserved
loop-raise-preserved c =
    turn_more _ _ _ _ _ _ _ _ _ c.requires.0 c.loop-raise.invariant _ (rest_some _ _ c.is_empty.ensures c.loop-raise-test.true) c.least-f.ensures _ _ _ _
    c.one.ensures c.less-rest.ensures (effect-wrote _ _ _ _ _ _ _ _ _ c.member.ensures refl c.put_on-next.ensures)

pub returns : goal.returns
returns c =
    effects-wrote _ _ _ _ _ _ _ _ (turn-done _ _ _ _ _ _ _ _ _ c.requires.0 c.loop-raise.invariant (rest-none _ _ c.is_empty.ensures c.loop-raise-test.false))
