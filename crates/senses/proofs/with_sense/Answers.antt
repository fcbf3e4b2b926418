use Rattle.senses.specs.Senses.{with_sense}
use borrow.Author.Tests.{eq-eqb, ne_eqb}
use Rattle.std.proofs.Common.{rules}
use Rattle.senses.proofs.with_sense.Goals as goal

pub returns-then-senses-eq0 : goal.returns-then-senses-eq0
returns-then-senses-eq0 c = unfold with_sense in rw (eq-eqb _ _ c.if-senses-eq0.true)

pub returns-then-senses-sense : goal.returns-then-senses-sense
returns-then-senses-sense c = unfold with_sense in rw (ne_eqb _ _ c.if-senses-eq0.false, eq-eqb _ _ c.if-senses-sense.true)

pub returns-else-senses-sense : goal.returns-else-senses-sense
returns-else-senses-sense c = unfold with_sense in rw (ne_eqb _ _ c.if-senses-eq0.false, ne_eqb _ _ c.if-senses-sense.false)
