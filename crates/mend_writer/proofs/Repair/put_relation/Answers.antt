use Rattle.std.proofs.Common.{rules}
use Rattle.mend_writer.specs.Bytes.{keep-none, keep-fits, keep-wrote}
use Rattle.mend_writer.proofs.Repair.put_relation.Goals as goal

pub returns-then-bad_relation_at : goal.returns-then-bad_relation_at
returns-then-bad_relation_at c = search (rules, keep-none)

pub put_record-requires : goal.put_record-requires
put_record-requires c = search (rules, keep-fits)

pub returns : goal.returns
returns c = search (rules, keep-wrote)
