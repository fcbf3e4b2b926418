use Rattle.derived.specs.RuleBytes.{answer-none, answer-fits, answer-wrote}
use Rattle.std.proofs.Common.{arith}
use Rattle.rule_writer.proofs.put_answer.Goals as goal

pub returns-then-member : goal.returns-then-member
returns-then-member c = search answer-none

pub put_on-requires : goal.put_on-requires
put_on-requires c = (omega arith, omega arith, answer-fits _ _ _ _ _ _ c.member.ensures c.if-member.false c.requires.2)

pub returns : goal.returns
returns c = search answer-wrote
