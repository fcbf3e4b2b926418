use Rattle.std.proofs.Common.{arith}
use Rattle.mend.specs.Returns.{events-few, mendable}
use Rattle.mend.proofs.Returns.{mend_header, mend-thrown, mend-many}
use Rattle.mend.proofs.mend_judged.Goals as goal

pub returns-in_err-image : goal.returns-in_err-image
returns-in_err-image c = mend-thrown _ _ _ _ _ c.from_residual.ensures.1 (mend_header _ _ _ c.in_err-image.ensures)

pub overflow_cast-result : goal.overflow_cast-result
overflow_cast-result c = let e = events-few c.in_ok-image.image.whole c.groups_left-groups.ensures c.count_events-events.ensures in record { fits = omega arith }

pub returns-then-events-gt-MAX_EVENTS : goal.returns-then-events-gt-MAX_EVENTS
returns-then-events-gt-MAX_EVENTS c = let h = c.in_ok-image.ensures in rw (← h.0) (mend-many c.in_ok-image.image.whole c.groups_left-groups.ensures c.count_events-events.ensures _ _ (rw h.0 h.1) c.if-events-gt-MAX_EVENTS.true)

pub mend_into-requires : goal.mend_into-requires
mend_into-requires c = let h = c.in_ok-image.ensures in mendable c.in_ok-image.image.whole c.groups_left-groups.ensures c.count_events-events.ensures (rw h.0 h.1) c.if-events-gt-MAX_EVENTS.false
