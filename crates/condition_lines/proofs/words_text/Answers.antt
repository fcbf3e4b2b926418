-- `condition_lines::words_text` meets its contract: each turn writes one word.
use Rattle.derived.specs.WritingLoops.{upto-start}
use Rattle.condition_lines.specs.Writers.{word_fits, word_more, words-done}
use Rattle.condition_lines.proofs.words_text.Goals as goal

pub loop-i-init : goal.loop-i-init
loop-i-init c = search upto-start

pub word_text-next-requires : goal.word_text-next-requires
word_text-next-requires c = search word_fits

pub loop-i-preserved : goal.loop-i-preserved
loop-i-preserved c = search word_more

pub returns : goal.returns
returns c = search words-done
