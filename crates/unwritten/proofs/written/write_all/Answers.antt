use Rattle.std.proofs.Common.{arith}
use Rattle.unwritten.specs.Words.{all_none}
use Rattle.unwritten.proofs.Flags.{all-word, all_rest, all-even}
use Rattle.unwritten.proofs.written.write_all.Goals as goal

pub loop-w-init : goal.loop-w-init
loop-w-init c = all_none

pub loop-w-preserved : goal.loop-w-preserved
loop-w-preserved c = all-word _ _ _ c.loop-w.invariant (omega arith) c.all_below.ensures

pub returns-then-words-lt-RULE_WORDS : goal.returns-then-words-lt-RULE_WORDS
returns-then-words-lt-RULE_WORDS c = search all_rest

pub returns-else-words-lt-RULE_WORDS : goal.returns-else-words-lt-RULE_WORDS
returns-else-words-lt-RULE_WORDS c = search all-even
