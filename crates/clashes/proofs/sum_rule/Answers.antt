-- `clashes::sum_rule` meets its contract: a rule whose target lies outside the round is passed, another taken in.
use Rattle.clashes.proofs.Rules.{sum-before, sum-behind, sum_more}
use Rattle.std.proofs.Common.{refl}
use Rattle.clashes.proofs.sum_rule.Goals as goal
use Rattle.clashes.proofs.sum_rule.Goals.{then-target-from-via-then-target-from, then-target-from-via-else-target-from+then-n-target}

pub returns-then-target-from : goal.returns-then-target-from
returns-then-target-from c = elim c.then-target-from.branch [
  | then-target-from-via-then-target-from w ↦ (sum-before _ _ _ c.target_of-target.ensures.0 _ _ _ c.requires.3 w.if-target-from.true, refl)
  | then-target-from-via-else-target-from+then-n-target w ↦ (sum-behind _ _ _ c.target_of-target.ensures.0 _ _ _ c.requires.3 w.if-target-from.false w.if-n-target.true, refl)
]

pub returns : goal.returns
returns c =
    sum_more _ _ _ _ _ _ c.target_of-target.ensures.0 c.sets_it.ensures c.turn_of.ensures.0 c.sense_of.ensures _ _ _ c.requires.3 c.if-target-from.false c.if-n-target.false _
    c.side-d.ensures.0 _ c.stages_at.ensures _ c.add.ensures
