use Rattle.std.proofs.Common.{arith}
use Rattle.smaller_rules.proofs.Running.{condition-le, bare-under, stage-under-1, stage-under-2, bare-ran, stage-ran}
use Rattle.smaller_rules.proofs.put_stage.Goals as goal

pub overflow_cast-condition : goal.overflow_cast-condition
overflow_cast-condition c = omega (arith, condition-le c.args.sizes.now _ _ c.requires.1)

pub put_free-requires : goal.put_free-requires
put_free-requires c = search bare-under

pub returns-then-sizes-e-eq0 : goal.returns-then-sizes-e-eq0
returns-then-sizes-e-eq0 c = search bare-ran

pub put_free-next-requires : goal.put_free-next-requires
put_free-next-requires c = search stage-under-1

pub put_free-requires-2 : goal.put_free-requires-2
put_free-requires-2 c = search stage-under-2

pub returns : goal.returns
returns c = search stage-ran
