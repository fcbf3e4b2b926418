use Rattle.std.proofs.Common.{rules}
use Rattle.mend_writer.specs.Bytes.{node-wrote}
use Rattle.mend_writer.proofs.Repair.put_node.Goals as goal

pub returns : goal.returns
returns c = search (rules, node-wrote)
