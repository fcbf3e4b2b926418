use Rattle.senses.proofs.Bytes.{sense-none, sense-written, sense-negated}
use Rattle.std.proofs.Common.{rules}
use Rattle.senses.proofs.sense_of.Goals as goal

pub returns-then-sense-eq-SENSE_NONE : goal.returns-then-sense-eq-SENSE_NONE
returns-then-sense-eq-SENSE_NONE c = search sense-none

pub returns-then-sense-eq-SENSE_AS_WRITTEN : goal.returns-then-sense-eq-SENSE_AS_WRITTEN
returns-then-sense-eq-SENSE_AS_WRITTEN c = search sense-written

pub returns : goal.returns
returns c = search sense-negated
