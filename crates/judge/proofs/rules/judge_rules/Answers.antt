-- `judge::rules::judge_rules`: a law for each return.
use Rattle.std.proofs.Common.{arith}
use Rattle.clashes.specs.Pairs.{second-small}
use Rattle.judge.proofs.Returns.{place-small, rules-loop, rules-clash, rules-pass}
use Rattle.judge.proofs.rules.judge_rules.Goals as goal

pub overflow_cast-result : goal.overflow_cast-result
overflow_cast-result c = omega (arith, place-small _ _ c.requires.0 _ c.in-Some.ensures)

pub returns-in-Some : goal.returns-in-Some
returns-in-Some c = rules-loop _ _ c.requires.0 _ c.in-Some.ensures

pub overflow_cast-result-then-pair-rules-2 : goal.overflow_cast-result-then-pair-rules-2
overflow_cast-result-then-pair-rules-2 c = omega (arith, second-small _ c.requires.0.formed _ _ c.first_clash-pair.ensures.first_value.1)

pub returns-then-pair-rules : goal.returns-then-pair-rules
returns-then-pair-rules c =
    rules-clash _ _ c.requires.0 c.in_default.ensures _ _ c.first_clash-pair.ensures.first_value.0 c.first_clash-pair.ensures.first_value.1 c.if-pair-rules.true

pub returns : goal.returns
returns c =
    rules-pass _ _ c.requires.0 c.in_default.ensures _ _ c.first_clash-pair.ensures.first_value.0 c.first_clash-pair.ensures.first_value.1 c.if-pair-rules.false
