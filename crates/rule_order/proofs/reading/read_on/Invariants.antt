use Rattle.rule_order.specs.Freed.{Clear}
use Rattle.rule_order.proofs.reading.read_on.Given as goal

abbrev pub invariant-loop-i : goal.invariant-loop-i
invariant-loop-i l = Clear l.image l.at l.from l.count l.set l.i
