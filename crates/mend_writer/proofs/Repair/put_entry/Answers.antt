use Rattle.std.proofs.Common.{rules}
use Rattle.mend_writer.specs.Bytes.{entry-none, entry-fits, entry-wrote}
use Rattle.mend_writer.proofs.Repair.put_entry.Goals as goal

pub returns-then-not-changed_at : goal.returns-then-not-changed_at
returns-then-not-changed_at c = search (rules, entry-none)

pub put-requires : goal.put-requires
put-requires c = search (rules, entry-fits)

pub returns : goal.returns
returns c = search (rules, entry-wrote)
