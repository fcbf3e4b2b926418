use Rattle.mend_writer.specs.Bytes.{list-fits-1, list-fits-2, list_wrote}
use Rattle.mend_writer.proofs.Repair.put_list.Goals as goal

pub put_steps-drops-requires : goal.put_steps-drops-requires
put_steps-drops-requires c = list-fits-1 _ _ _ _ c.requires

pub put_drops-requires : goal.put_drops-requires
put_drops-requires c = list-fits-2 _ _ _ _ c.requires _ _ c.put_steps-drops.ensures

pub returns : goal.returns
returns c = list_wrote _ _ _ _ c.requires _ _ c.put_steps-drops.ensures _ _ c.put_drops.ensures
