-- `book::rules::first_bad_rule` meets its contract: the rule that it stops at is the first that is bad.
use Rattle.std.proofs.Common.{ap, not, ◌∙◌, sym, arith}
use Rattle.general.specs.Below.{first_found, first-none}
use Rattle.book.proofs.rules.first_bad_rule.Goals as goal

pub returns-then-not-rule_fits : goal.returns-then-not-rule_fits
returns-then-not-rule_fits c = first_found _ _ _ c.loop-r-test.true c.loop-r.invariant (ap not (sym c.rule_fits.ensures) ∙ ap not c.if-not-rule_fits.true)

pub returns : goal.returns
returns c = first-none _ _ (λ k h. c.loop-r.invariant k (omega arith))
