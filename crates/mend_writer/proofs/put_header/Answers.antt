use Rattle.std.proofs.Common.{rules}
use Rattle.mend_writer.specs.Bytes.{header-wrote}
use Rattle.mend_writer.proofs.put_header.Goals as goal

pub returns : goal.returns
returns c = search (rules, header-wrote)
