-- `indexed_list::lists::walk_list`: the entries that were granted.
use Rattle.indexed_list.proofs.Listed.{Gone}
use Rattle.indexed_list.proofs.lists.walk_list.Given as goal

abbrev pub invariant-loop-j : goal.invariant-loop-j
invariant-loop-j l = Gone l.book l.initial.held.marks l.list l.held.marks l.evaluated l.j
