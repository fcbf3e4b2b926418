-- The rules that were looked at are not bad.
use Rattle.std.proofs.Common.{◌≡◌, ℕ, ◌<◌, not, false}
use Rattle.book.specs.Image.{rule_place}
use Rattle.book.specs.Judging.{rule_fits}
use Rattle.book.proofs.rules.first_bad_rule.Given as goal

abbrev pub invariant-loop-r : goal.invariant-loop-r
invariant-loop-r l = (k : ℕ) → k < l.r → not (rule_fits l.stages l.marks l.conditions l.image (rule_place k)) ≡ false
