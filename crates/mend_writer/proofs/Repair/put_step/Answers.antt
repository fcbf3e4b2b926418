use Rattle.std.proofs.Common.{rules}
use Rattle.general.specs.Writing.{runs-start, runs-fits, runs-more, runs_done}
use Rattle.mend_writer.proofs.Repair.put_step.Goals as goal

pub loop-i-init : goal.loop-i-init
loop-i-init c = runs-start _ _ _ _

pub put_entry-next-requires : goal.put_entry-next-requires
put_entry-next-requires c = (c.loop-i-test.true, runs-fits _ _ _ _ _ _ _ c.loop-i.invariant c.loop-i-test.true c.requires)

pub loop-i-preserved : goal.loop-i-preserved
loop-i-preserved c = search (rules, runs-more)

pub returns : goal.returns
returns c = runs_done _ _ _ _ _ _ _ c.loop-i.invariant c.loop-i-test.false
