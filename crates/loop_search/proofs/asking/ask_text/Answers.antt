use Rattle.book.specs.WellRead.{span-inside, span-asks}
use Rattle.loop_search.proofs.Words.{asked-text}
use Rattle.loop_search.proofs.asking.ask_text.Goals as goal

pub condition_at-span-requires : goal.condition_at-span-requires
condition_at-span-requires c = span-inside _ _ c.requires.0 _ c.requires.1

pub ask_words-requires : goal.ask_words-requires
ask_words-requires c = ((span-asks _ _ c.requires.0 _ c.requires.1 _ _ c.condition_at-span.ensures c.words_from-from.ensures).0, c.requires.2)

pub returns : goal.returns
returns c = asked-text _ _ c.requires.0 _ c.requires.1 _ _ c.condition_at-span.ensures c.words_from-from.ensures _ _ c.ask_words.ensures
