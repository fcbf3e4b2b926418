-- `index_fit::stage_same`.
use Rattle.index_fit.proofs.Climbing.{entries_fit, entries-same}
use Rattle.index_fit.proofs.stage_same.Goals as goal

pub entries_rise-requires : goal.entries_rise-requires
entries_rise-requires c = let p = c.requires in (p.0, p.1, entries_fit _ _ p.0 p.2 _ p.3 c.args.index.now _ p.5)

pub returns-then-rising : goal.returns-then-rising
returns-then-rising c = let p = c.requires in entries-same _ _ p.0 p.2 _ p.3 _ _ (λ i. (c.type_inv.index i).fits) (p.4 c.if-rising.true) _ c.entries_rise.ensures
