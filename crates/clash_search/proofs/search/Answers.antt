-- `clash_search::search` meets its contract: rules below p clash with no later one, and p with none below q.
use Rattle.std.proofs.Common.{refl}
use Rattle.clash_search.proofs.Searching.{search-begin, seek-start, seek-on, seek_found, seek-end, search-end}
use Rattle.clash_search.proofs.search.Goals as goal

pub search-init : goal.search-init
search-init c = (search-begin _ c.requires.0 _ _ c.requires.1 c.requires.2, refl, refl)

pub loop-q-init : goal.loop-q-init
loop-q-init c = (seek-start _ _ _ c.search.invariant.0 c.search-test.true, c.search.invariant.1, c.search.invariant.2)

pub loop-q-preserved : goal.loop-q-preserved
loop-q-preserved c =
    (seek-on _ _ _ _ _ c.loop-q.invariant.0 c.loop-q-test.true c.clash.ensures c.if-clash.false, c.loop-q.invariant.1, c.loop-q.invariant.2)

pub search-preserved : goal.search-preserved
search-preserved c =
    (seek-end _ _ _ _ c.search.invariant.0 c.search-test.true c.loop-q.invariant.0 c.loop-q-test.false, c.loop-q.invariant.1, c.loop-q.invariant.2)

pub returns-after-search : goal.returns-after-search
returns-after-search c = rw (c.search.invariant.1, c.search.invariant.2) (search-end _ _ _ c.search.invariant.0 c.search-test.false)

pub returns-then-clash : goal.returns-then-clash
returns-then-clash c = seek_found _ _ _ _ _ c.search.invariant.0 c.loop-q.invariant.0 c.loop-q-test.true c.clash.ensures c.if-clash.true
