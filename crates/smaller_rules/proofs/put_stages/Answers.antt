use Rattle.std.proofs.Common.{arith, refl}
use Rattle.general.specs.Below.{tally}
use Rattle.smaller.specs.Loops.{upto-start, upto-under, upto-more}
use Rattle.smaller_rules.proofs.Running.{condition-le, condition-same, condition-more}
use Rattle.smaller_rules.proofs.put_stages.Goals as goal

pub loop-e-init : goal.loop-e-init
unfolding tally
loop-e-init c = record { ran = upto-start; number = refl }

pub put_stage-next-requires : goal.put_stage-next-requires
put_stage-next-requires c = (omega arith, c.loop-e.invariant.number, upto-under c.loop-e.invariant.ran c.loop-e-test.true c.requires.1)

pub overflow_add-condition : goal.overflow_add-condition
overflow_add-condition c = omega (arith, condition-le c.args.sizes.now _ _ c.loop-e.invariant.number)

pub loop-e-preserved : goal.loop-e-preserved
loop-e-preserved c = record {
  ran = upto-more c.loop-e.invariant.ran c.loop-e-test.true c.put_stage-next.ensures;
  number = grind (arith, condition-more c.args.sizes.now _ _ c.loop-e.invariant.number, condition-same c.args.sizes.now _ _ c.loop-e.invariant.number);
}
