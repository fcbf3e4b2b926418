-- `index_fit::index_same`.
use Rattle.std.proofs.Common.{arith, ap}
use Rattle.std.specs.Prelude.{not}
use Rattle.index.specs.Ready.{ready-sized}
use Rattle.index_fit.proofs.Comparing.{same-long, same-fits-1, same-fits-2, same-fits-3, same-front, same_entries, same_whole}
use Rattle.index_fit.proofs.index_same.Goals as goal

pub index_size-requires : goal.index_size-requires
index_size-requires c = search ready-sized

pub returns-then-index-index_size : goal.returns-then-index-index_size
returns-then-index-index_size c = same-long _ _ _ _ _ c.requires _ c.index_size.ensures (λ q. omega (arith, q, c.if-index-index_size.true))

pub pair_same-requires : goal.pair_same-requires
pair_same-requires c = same-fits-1 _ _ _ _ c.args.index.now c.requires _ c.index_size.ensures (omega (arith, c.if-index-index_size.false))

pub returns-then-not-pair_same : goal.returns-then-not-pair_same
returns-then-not-pair_same c = same-front _ _ _ _ _ c.requires _ c.pair_same.ensures (ap not c.if-not-pair_same.true)

pub entries_same-requires : goal.entries_same-requires
entries_same-requires c = (ready-sized _ _ _ _ c.requires, same-fits-2 _ _ _ _ c.args.index.now c.requires _ c.index_size.ensures (omega (arith, c.if-index-index_size.false)))

pub returns-then-not-entries_same : goal.returns-then-not-entries_same
returns-then-not-entries_same c = same_entries _ _ _ _ _ c.requires _ c.pair_same.ensures (ap not c.if-not-pair_same.false) _ c.entries_same.ensures (ap not c.if-not-entries_same.true)

pub orders_same-requires : goal.orders_same-requires
orders_same-requires c = (c.requires, same-fits-3 _ _ _ _ c.args.index.now c.requires _ c.index_size.ensures (omega (arith, c.if-index-index_size.false)))

pub returns : goal.returns
returns c = same_whole _ _ _ _ _ c.requires _ c.pair_same.ensures (ap not c.if-not-pair_same.false) _ c.entries_same.ensures (ap not c.if-not-entries_same.false) _ c.index_size.ensures c.if-index-index_size.false _ c.orders_same.ensures
