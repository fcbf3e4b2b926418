-- `index::write::put_index`.
use Rattle.index.specs.Ready.{ready-sized, ready-acyclic}
use Rattle.index.proofs.Writing.{index-fits-1, index-fits-2, index-fits-3, index-wrote}
use Rattle.index.proofs.write.put_index.Goals as goal

pub put_pair-a-requires : goal.put_pair-a-requires
put_pair-a-requires c = index-fits-1 _ _ _ _ c.args.room.now c.requires.0 c.requires.1

pub put_entries-b-requires : goal.put_entries-b-requires
put_entries-b-requires c = (ready-sized _ _ _ _ c.requires.0, index-fits-2 _ _ _ _ _ c.requires.0 c.requires.1 _ _ c.put_pair-a.ensures)

pub put_orders-requires : goal.put_orders-requires
put_orders-requires c = let p = c.requires in (
  p.0.opened,
  (ready-sized _ _ _ _ p.0).few,
  ready-acyclic _ _ _ _ p.0,
  index-fits-3 _ _ _ _ _ p.0 p.1 _ _ c.put_pair-a.ensures _ _ c.put_entries-b.ensures,
)

pub returns : goal.returns
returns c = index-wrote _ _ _ _ _ c.requires.0 c.requires.1 _ _ c.put_pair-a.ensures _ _ c.put_entries-b.ensures _ _ c.put_orders.ensures
