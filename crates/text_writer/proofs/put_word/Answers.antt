use Rattle.derived.specs.RuleBytes.{clause-fits, clause-from}
use Rattle.derived.specs.WritingLoops.{turn-done, turn-fits, turn-falls, turn_more}
use Rattle.std.proofs.Common.{◌≤◌, arith}
use Rattle.text_writer.proofs.put_word.Goals as goal

whole : 64 ≤ 64
whole = omega arith

pub put_clause-next-requires : goal.put_clause-next-requires
put_clause-next-requires c =
    clause-fits _ _ _ _ _ (turn-fits _ _ _ _ _ _ _ _ _ whole c.loop-rest.invariant _ c.loop-rest-test.true c.least-f.ensures c.requires.2)

pub loop-rest-smaller : goal.loop-rest-smaller
loop-rest-smaller c = turn-falls _ _ _ _ _ _ _ _ _ whole c.loop-rest.invariant _ c.loop-rest-test.true c.least-f.ensures _ _ c.one.ensures c.less-rest.ensures

pub loop-rest-preserved : goal.loop-rest-preserved
loop-rest-preserved c =
    turn_more _ _ _ _ _ _ _ _ _ whole c.loop-rest.invariant _ c.loop-rest-test.true c.least-f.ensures _ _ _ _ c.one.ensures c.less-rest.ensures
    (clause-from _ _ _ _ _ c.put_clause-next.ensures)

pub returns : goal.returns
returns c = turn-done _ _ _ _ _ _ _ _ _ whole c.loop-rest.invariant c.loop-rest-test.false
