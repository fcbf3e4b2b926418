-- `texts::first_bad_condition` meets its contract: it stops at the first condition that is bad, and each that it passes has its marks noted.
use Rattle.std.proofs.Common.{ap, not, ◌∙◌, sym, arith, below_more}
use borrow.Author.Tests.{not-false}
use Rattle.general.specs.Below.{first_found, first-none}
use Rattle.texts.proofs.Naming.{named-starts, named_more}
use Rattle.texts.proofs.Returns.{condition-at, names_at}
use Rattle.texts.proofs.first_bad_condition.Goals as goal

pub loop-c-init : goal.loop-c-init
loop-c-init c = record { passed = λ k h. absurd (omega arith); named = named-starts _ _ _ }

pub returns-then-not-condition_fits-clause-value : goal.returns-then-not-condition_fits-clause-value
returns-then-not-condition_fits-clause-value c =
    let value = condition-at _ _ _ _ _ _ c.conditions_from-begin.ensures c.words_from-from.ensures _ _ _ c.condition_fits.ensures.value in
    first_found _ _ _ c.loop-c-test.true c.loop-c.invariant.passed (ap not (sym value) ∙ ap not c.if-not-condition_fits.true)

pub loop-c-preserved : goal.loop-c-preserved
loop-c-preserved c =
    let value = condition-at _ _ _ _ _ _ c.conditions_from-begin.ensures c.words_from-from.ensures _ _ _ c.condition_fits.ensures.value in
    record {
      passed = below_more _ _ c.loop-c.invariant.passed (ap not (sym value) ∙ ap not c.if-not-condition_fits.false);
      named = named_more _ _ _ _ _ _ c.loop-c.invariant.named
          (names_at _ _ _ _ _ _ c.conditions_from-begin.ensures c.words_from-from.ensures _ _ (c.condition_fits.ensures.added (not-false _ (ap not c.if-not-condition_fits.false))));
    }

pub returns-clause-value : goal.returns-clause-value
returns-clause-value c = first-none _ _ (λ k h. c.loop-c.invariant.passed k (omega arith))
