-- `index_fit::rising::entries_rise`.
use Rattle.std.proofs.Common.{arith, ap}
use Rattle.std.specs.Prelude.{not}
use Rattle.index_fit.proofs.Climbing.{climbing-first, climbing-fits, climbing-not, climbing-more, climbing-done}
use Rattle.index_fit.proofs.rising.entries_rise.Goals as goal

pub loop-j-init : goal.loop-j-init
loop-j-init c = search climbing-first

pub returns-then-not-entry_rises : goal.returns-then-not-entry_rises
returns-then-not-entry_rises c = climbing-not _ _ _ _ _ _ _ _ c.loop-j.invariant c.loop-j-test.true _ c.u32_at-r.ensures _ c.entry_rises.ensures (ap not c.if-not-entry_rises.true)

pub overflow_add-next : goal.overflow_add-next
overflow_add-next c = omega (arith, climbing-fits _ _ _ _ _ _ _ _ c.loop-j.invariant c.requires.2 c.loop-j-test.true, c.well_formed)

pub loop-j-preserved : goal.loop-j-preserved
loop-j-preserved c = climbing-more _ _ _ _ _ _ _ _ c.loop-j.invariant c.loop-j-test.true _ c.u32_at-r.ensures _ c.entry_rises.ensures (ap not c.if-not-entry_rises.false)

pub returns : goal.returns
returns c = search climbing-done
