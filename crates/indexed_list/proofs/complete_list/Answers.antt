-- `indexed_list::complete_list`: the walk, and what is refused before it.
use Rattle.indexed_list.proofs.Listed.{walk_begins, list-refused, list-walked}
use Rattle.indexed_list.proofs.complete_list.Goals as goal

pub walk_list-requires : goal.walk_list-requires
walk_list-requires c = walk_begins _ _ _ _ c.in-Ok.ensures.indexed c.in-Ok.ensures.short

pub returns-in-Ok : goal.returns-in-Ok
returns-in-Ok c = list-walked _ _ _ _ c.in-Ok.ensures.answer _ c.walk_list.ensures

pub returns-in-Err : goal.returns-in-Err
returns-in-Err c = rw c.from.ensures (list-refused _ _ _ _ _ c.in-Err.ensures.answer)
