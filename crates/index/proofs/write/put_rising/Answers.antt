-- `index::write::put_rising`.
use Rattle.std.proofs.Common.{rules}
use Rattle.index.proofs.Listing.{rising-fits-1, rising-fits-2, rising-wrote}
use Rattle.index.proofs.write.put_rising.Goals as goal

pub put_span-next-requires : goal.put_span-next-requires
put_span-next-requires c = search (rules, rising-fits-1)

pub put_span-requires : goal.put_span-requires
put_span-requires c = search (rules, rising-fits-2)

pub returns : goal.returns
returns c = search rising-wrote
