use Rattle.flattening.specs.Meaning.{table_of}
use Rattle.flattening.specs.Flattening.{flat_table}
use Rattle.flattening.proofs.Layout.put_table.Goals as goal

pub returns : goal.returns
unfolding flat_table
returns c = table_of c.args.self.known c.requires.0 c.gather.ensures c.args.self.ordered c.hand_down.ensures.0 c.hand_down.ensures.1 c.flatten.ensures
