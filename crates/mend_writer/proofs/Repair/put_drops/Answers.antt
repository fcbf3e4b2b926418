use Rattle.std.proofs.Common.{rules}
use Rattle.general.specs.Writing.{runs-start, runs-fits, runs-more, runs_done}
use Rattle.mend_writer.proofs.Repair.put_drops.Goals as goal

pub loop-k-init : goal.loop-k-init
loop-k-init c = runs-start _ _ _ _

pub put_drop-next-requires : goal.put_drop-next-requires
put_drop-next-requires c = (c.loop-k-test.true, runs-fits _ _ _ _ _ _ _ c.loop-k.invariant c.loop-k-test.true c.requires)

pub loop-k-preserved : goal.loop-k-preserved
loop-k-preserved c = search (rules, runs-more)

pub returns : goal.returns
returns c = runs_done _ _ _ _ _ _ _ c.loop-k.invariant c.loop-k-test.false
