-- `runner::running::go_through`: one more turn, and the last.
use Rattle.runner.proofs.Turns.{going-last, going-on}
use Rattle.runner.proofs.running.go_through.Goals as goal

pub loop-entry-preserved : goal.loop-entry-preserved
loop-entry-preserved c = going-on _ _ _ _ _ _ _ c.loop-entry.invariant _ c.loop-entry-test.true c.turn.ensures

pub returns : goal.returns
returns c = going-last _ _ _ _ _ _ _ c.loop-entry.invariant c.loop-entry-test.false
