-- `index::rising::last_asked`.
use Rattle.book.specs.WellRead.{span-inside, span-asks}
use Rattle.index.proofs.Ascending.{text-above}
use Rattle.index.proofs.rising.last_asked.Goals as goal

pub condition_in-span-requires : goal.condition_in-span-requires
condition_in-span-requires c = span-inside _ _ c.requires.0 _ c.requires.1

pub last_named-requires : goal.last_named-requires
last_named-requires c = (span-asks _ _ c.requires.0 _ c.requires.1 _ _ c.condition_in-span.ensures c.words_from-from.ensures).0

pub returns : goal.returns
returns c = text-above _ _ c.requires.0 _ c.requires.1 _ _ c.condition_in-span.ensures c.words_from-from.ensures _ _ c.last_named.ensures
