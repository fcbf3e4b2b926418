-- The conditions that were read are not bad, and the set has the marks that their texts name.
use Rattle.std.proofs.Common.{◌≡◌, ℕ, ◌<◌, not, false}
use Rattle.book.specs.Image.{condition_place}
use Rattle.book.specs.Judging.{condition_fits}
use Rattle.texts.specs.Noted.{Named}
use Rattle.texts.proofs.first_bad_condition.Given as goal

abbrev pub invariant-loop-c : goal.invariant-loop-c
invariant-loop-c l = record {
  passed : (k : ℕ) → k < l.c → not (condition_fits l.marks l.words (condition_place l.rules l.conditions) l.image (condition_place l.rules k)) ≡ false;
  named : Named l.image l.rules l.conditions l.c l.named;
}
