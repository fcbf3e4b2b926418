-- `judge::image::judge_body`: a law for each return.
use Rattle.judge.proofs.Returns.{bad-rule, bad-condition, none-bad, all-named}
use Rattle.book.specs.Judging.{first_bad_rule, first_bad_condition}
use Rattle.judge.proofs.image.judge_body.Goals as goal

pub returns-then-r-counts-clause-answer : goal.returns-then-r-counts-clause-answer
unfolding first_bad_rule
returns-then-r-counts-clause-answer c = bad-rule _ _ c.requires _ c.first_bad_rule-r.ensures c.if-r-counts.true

pub returns-then-c-counts-clause-answer : goal.returns-then-c-counts-clause-answer
unfolding first_bad_rule first_bad_condition
returns-then-c-counts-clause-answer c =
    bad-condition _ _ c.requires _ c.first_bad_rule-r.ensures c.if-r-counts.false _ c.first_bad_condition-c.ensures.value c.if-c-counts.true

pub returns-clause-answer : goal.returns-clause-answer
unfolding first_bad_rule first_bad_condition
returns-clause-answer c =
    none-bad _ _ c.requires _ c.first_bad_rule-r.ensures c.if-r-counts.false _ c.first_bad_condition-c.ensures.value c.if-c-counts.false

pub returns-clause-named : goal.returns-clause-named
unfolding first_bad_rule first_bad_condition
returns-clause-named c =
    all-named _ _ c.requires _ c.first_bad_rule-r.ensures c.if-r-counts.false _ c.first_bad_condition-c.ensures.value _ c.if-c-counts.false
    c.first_bad_condition-c.ensures.named
