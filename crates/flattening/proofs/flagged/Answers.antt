use Rattle.std.proofs.Common.{◌∙◌}
use Rattle.sets.specs.Collecting.{collect-none}
use Rattle.flattening.specs.Rows.{flag-more}
use Rattle.flattening.proofs.flagged.Goals as goal

pub loop-e-init : goal.loop-e-init
loop-e-init c = c.empty-set.ensures ∙ collect-none _

pub loop-e-preserved : goal.loop-e-preserved
loop-e-preserved c = flag-more c.args.image.now c.args.nodes.now c.args.digit _ _ _ _ _ c.loop-e.invariant c.flags_of-flags.ensures c.member.ensures c.put_if-set.ensures
