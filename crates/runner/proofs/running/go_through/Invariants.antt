-- `runner::running::go_through`: the rules that had their turn.
use Rattle.runner.proofs.Turns.{Going}
use Rattle.runner.proofs.running.go_through.Given as goal

abbrev pub invariant-loop-entry : goal.invariant-loop-entry
invariant-loop-entry l = Going l.book l.order l.snapshot.marks l.stage l.snapshot.marks l.held.marks l.entry-index
