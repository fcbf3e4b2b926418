use Rattle.std.proofs.Common.{lt-ltb, le-ltb}
use Rattle.paper.specs.Answers.{place_of}
use Rattle.paper.proofs.place_of.Goals as goal

pub returns-then-position-lt-LAST_PLACE : goal.returns-then-position-lt-LAST_PLACE
unfolding place_of
returns-then-position-lt-LAST_PLACE c = rw (lt-ltb _ _ c.if-position-lt-LAST_PLACE.true)

pub returns : goal.returns
unfolding place_of
returns c = rw (le-ltb _ _ c.if-position-lt-LAST_PLACE.false)
