use Rattle.std.proofs.Common.{arith}
use Rattle.rule_order.specs.Freed.{freed-shrunk}
use Rattle.ordering.proofs.Stepping.{looking-on, looking-found, looking-end}
use Rattle.ordering.proofs.scan.next_rule.Goals as goal

pub returns-then-look-clause-turn : goal.returns-then-look-clause-turn
returns-then-look-clause-turn c = (
  looking-found _ c.requires.0 _ _ _ _ _ _ _ _ _ _ _ _ c.loop-here.invariant.looking _ _ _ _ _ _ _ c.look.ensures.looked c.if-look.true c.write_rule.ensures.turn,
  omega (arith, c.write_rule.ensures.rule),
)

pub returns-then-look-clause-freed : goal.returns-then-look-clause-freed
returns-then-look-clause-freed c = rw c.write_rule.ensures.kept (freed-shrunk _ _ _ _ c.write_rule.ensures.shrunk c.look.ensures.freed)

pub loop-here-preserved : goal.loop-here-preserved
loop-here-preserved c =
    record {
      looking = looking-on _ c.requires.0 _ _ _ _ _ _ _ _ _ _ _ _ c.loop-here.invariant.looking _ _ _ _ _ c.look.ensures.looked c.if-look.false c.onward.ensures c.ahead-here.ensures;
      freed = c.look.ensures.freed;
    }

pub returns-clause-turn : goal.returns-clause-turn
returns-clause-turn c = looking-end _ c.requires.0 _ _ _ _ _ _ _ _ _ _ _ _ c.loop-here.invariant.looking (omega arith)
