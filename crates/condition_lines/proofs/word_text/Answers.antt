use Rattle.std.proofs.Common.{rules, tests}
use Rattle.writing.specs.Writers.{fits-as, wrote_as}
use Rattle.condition_lines.specs.Writers.{word_and, word-or, word-not, word-mark}
use Rattle.condition_lines.proofs.word_text.Goals as goal

pub text-requires : goal.text-requires
text-requires c = fits-as (word_and _ c.in-65533.is) c.requires

pub text-requires-in-65534 : goal.text-requires-in-65534
text-requires-in-65534 c = fits-as (word-or _ c.in-65534.is) c.requires

pub text-requires-in-65535 : goal.text-requires-in-65535
text-requires-in-65535 c = fits-as (word-not _ c.in-65535.is) c.requires

pub named-requires : goal.named-requires
named-requires c = fits-as (word-mark c.args.word (search (tests, rules)) (search (tests, rules)) (search (tests, rules))) c.requires

pub returns-in-65533 : goal.returns-in-65533
returns-in-65533 c = wrote_as (word_and _ c.in-65533.is) c.text.ensures

pub returns-in-65534 : goal.returns-in-65534
returns-in-65534 c = wrote_as (word-or _ c.in-65534.is) c.text-in-65534.ensures

pub returns-in-65535 : goal.returns-in-65535
returns-in-65535 c = wrote_as (word-not _ c.in-65535.is) c.text-in-65535.ensures

pub returns-in_default : goal.returns-in_default
returns-in_default c = wrote_as (word-mark c.args.word (search (tests, rules)) (search (tests, rules)) (search (tests, rules))) c.named.ensures
