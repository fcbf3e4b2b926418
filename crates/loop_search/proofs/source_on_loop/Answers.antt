use Rattle.std.proofs.Common.{sym, arith}
use Rattle.sets.specs.Laws.{lowest-lt, lowest-none}
use Rattle.loop_search.proofs.Rounds.{source-lowest}
use Rattle.loop_search.proofs.source_on_loop.Goals as goal

pub returns-then-hits-eq0 : goal.returns-then-hits-eq0
returns-then-hits-eq0 c =
    source-lowest _ _ _ _ _ _ _ c.requires.0 c.begin.ensures.0 c.spread.ensures.0 c.spread.ensures.1 0 64 (rw c.if-hits-eq0.true at c.hits_of-hits.ensures) (sym (lowest-none 64))

pub returns : goal.returns
returns c = (
  rw c.least.ensures (lowest-lt 64 _ (omega arith) (omega arith)),
  source-lowest _ _ _ _ _ _ _ c.requires.0 c.begin.ensures.0 c.spread.ensures.0 c.spread.ensures.1 _ _ c.hits_of-hits.ensures c.least.ensures,
)
