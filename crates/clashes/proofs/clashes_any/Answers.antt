-- `clashes::clashes_any` meets its contract: a rule of a stage is held against those of its stage and of none, another against all of the other effect.
use Rattle.clashes.proofs.Rules.{early-any, late-sets, late-clears}
use Rattle.clashes.proofs.clashes_any.Goals as goal

pub returns-then-turn-lt-MAX_EVENTS : goal.returns-then-turn-lt-MAX_EVENTS
returns-then-turn-lt-MAX_EVENTS c = search early-any

pub returns-then-undone : goal.returns-then-undone
returns-then-undone c = search late-sets

pub returns-else-undone : goal.returns-else-undone
returns-else-undone c = search late-clears
