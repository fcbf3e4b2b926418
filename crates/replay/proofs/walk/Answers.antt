use Rattle.std.proofs.Common.{arith}
use Rattle.replay.proofs.Walks.{going_start, going_index, going_more, going_stop, going_end}
use Rattle.replay.proofs.walk.Goals as goal

pub loop-at-init : goal.loop-at-init
loop-at-init c = search going_start

pub loop-at-preserved : goal.loop-at-preserved
loop-at-preserved c = going_more _ _ _ _ _ _ _ c.loop-at.invariant _ c.is_allowed.ensures (omega arith) (omega arith) c.if-not-is_allowed.false _ c.moved-reached.ensures

pub moved-reached-requires : goal.moved-reached-requires
moved-reached-requires c = search going_index

pub returns-then-not-is_allowed : goal.returns-then-not-is_allowed
returns-then-not-is_allowed c = going_stop _ _ _ _ _ _ _ c.loop-at.invariant _ c.is_allowed.ensures (omega arith) (omega arith) c.if-not-is_allowed.true _ c.step_in.ensures

pub returns : goal.returns
returns c = going_end _ _ _ _ _ _ _ c.loop-at.invariant (omega arith) _ (cc)
