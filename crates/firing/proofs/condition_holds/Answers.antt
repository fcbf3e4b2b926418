-- `firing::condition_holds` meets its contract: the words that it evaluates are the condition's text.
use Rattle.book.specs.WellRead.{span-asks, span_value}
use Rattle.firing.proofs.condition_holds.Goals as goal

pub text_holds-requires : goal.text_holds-requires
text_holds-requires c = span-asks _ _ c.requires.0 _ c.requires.1 _ _ c.condition-span.ensures c.words_from.ensures

pub returns : goal.returns
returns c = span_value _ _ c.requires.0 _ c.requires.1 _ _ c.condition-span.ensures c.words_from.ensures _ _ c.text_holds.ensures
