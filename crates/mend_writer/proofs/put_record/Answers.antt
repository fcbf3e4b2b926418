use Rattle.std.proofs.Common.{rules}
use Rattle.mend_writer.specs.Bytes.{relation-wrote}
use Rattle.mend_writer.proofs.put_record.Goals as goal

pub returns : goal.returns
returns c = search (rules, relation-wrote)
