use Rattle.senses.specs.Senses.{stages_at}
use borrow.Author.Tests.{lt-ltb, le-ltb}
use Rattle.std.proofs.Common.{rules}
use Rattle.senses.proofs.stages_at.Goals as goal

pub returns-then-turn-lt-MAX_EVENTS : goal.returns-then-turn-lt-MAX_EVENTS
returns-then-turn-lt-MAX_EVENTS c = unfold stages_at in rw (lt-ltb _ _ c.if-turn-lt-MAX_EVENTS.true) c.one.ensures

pub returns : goal.returns
returns c = unfold stages_at in rw (le-ltb _ _ c.if-turn-lt-MAX_EVENTS.false) c.all_below.ensures
