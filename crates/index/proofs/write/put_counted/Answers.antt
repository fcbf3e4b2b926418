-- `index::write::put_counted`.
use Rattle.index.proofs.Listing.{counted-not, counted-fits, counted-wrote}
use Rattle.index.proofs.write.put_counted.Goals as goal

pub returns-then-not-is_counted : goal.returns-then-not-is_counted
returns-then-not-is_counted c = counted-not _ _ _ _ _ _ c.is_counted.ensures c.if-not-is_counted.true

pub put32-requires : goal.put32-requires
put32-requires c = counted-fits _ _ _ _ _ _ c.is_counted.ensures c.if-not-is_counted.false c.requires.2

pub returns : goal.returns
returns c = counted-wrote _ _ _ _ _ _ c.is_counted.ensures c.if-not-is_counted.false _ c.put32.ensures
