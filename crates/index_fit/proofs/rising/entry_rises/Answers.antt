-- `index_fit::rising::entry_rises`.
use Rattle.index_fit.proofs.Climbing.{entry-low, entry_past, entry-counts}
use Rattle.index_fit.proofs.rising.entry_rises.Goals as goal

pub returns-then-r-from : goal.returns-then-r-from
returns-then-r-from c = search entry-low

pub returns-then-rules-r : goal.returns-then-rules-r
returns-then-rules-r c = search entry_past

pub returns : goal.returns
returns c = search entry-counts
