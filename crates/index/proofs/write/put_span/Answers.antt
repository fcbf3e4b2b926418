-- `index::write::put_span`.
use Rattle.index.proofs.Listing.{listing-first, listing-fits, listing-more, listing-last}
use Rattle.std.proofs.Common.{arith}
use Rattle.index.proofs.write.put_span.Goals as goal

pub loop-r-init : goal.loop-r-init
loop-r-init c = listing-first _ _ _ _ _ _ c.requires.1

pub put_counted-next-requires : goal.put_counted-next-requires
put_counted-next-requires c = (c.requires.0, omega (arith, c.requires.2, c.loop-r-test.true), listing-fits _ _ _ _ _ _ _ _ _ c.loop-r.invariant c.loop-r-test.true c.requires.3)

pub loop-r-preserved : goal.loop-r-preserved
loop-r-preserved c = listing-more _ _ _ _ _ _ _ _ _ c.loop-r.invariant c.loop-r-test.true _ _ c.put_counted-next.ensures

pub returns : goal.returns
returns c = listing-last _ _ _ _ _ _ _ _ _ c.loop-r.invariant c.loop-r-test.false
