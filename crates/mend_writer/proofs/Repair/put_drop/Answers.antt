use Rattle.std.proofs.Common.{rules}
use Rattle.mend_writer.specs.Bytes.{drop-none, drop-fits, drop-wrote}
use Rattle.mend_writer.proofs.Repair.put_drop.Goals as goal

pub returns-then-not-bad_relation_at : goal.returns-then-not-bad_relation_at
returns-then-not-bad_relation_at c = search (rules, drop-none)

pub put-requires : goal.put-requires
put-requires c = search (rules, drop-fits)

pub returns : goal.returns
returns c = search (rules, drop-wrote)
