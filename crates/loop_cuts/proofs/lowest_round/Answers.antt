use Rattle.std.proofs.Common.{rules, arith}
use Rattle.loop_cuts.specs.Round.{loop-in, min-one, round-start, round-on, round-more, round-less, round-end}
use Rattle.loop_cuts.proofs.lowest_round.Goals as goal

pub parent_of-c-requires : goal.parent_of-c-requires
parent_of-c-requires c = loop-in c.args.image.whole c.requires

pub loop-c-init : goal.loop-c-init
loop-c-init c = search (rules, round-start)

pub parent_of-c-requires-in-loop-c : goal.parent_of-c-requires-in-loop-c
parent_of-c-requires-in-loop-c c = loop-in c.args.image.whole (round-on _ _ c.loop-c.invariant)

pub loop-c-smaller : goal.loop-c-smaller
loop-c-smaller c = search (rules, round-less)

pub loop-c-preserved : goal.loop-c-preserved
loop-c-preserved c = round-more _ _ c.loop-c.invariant c.loop-c-test.true c.parent_of-c-in-loop-c.ensures (omega arith) (omega arith) (min-one _ _ c.min-low.ensures)

pub returns : goal.returns
returns c = round-end _ _ c.loop-c.invariant c.loop-c-test.false
