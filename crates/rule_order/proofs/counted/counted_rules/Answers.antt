use Rattle.std.proofs.Common.{arith}
use Rattle.rule_order.specs.Nets.{asked-first, asked-few, asked-on, asked-past, asked-last}
use Rattle.rule_order.proofs.counted.counted_rules.Goals as goal
use Rattle.rule_order.proofs.counted.counted_rules.Goals.{then-is_counted, else-is_counted}

pub loop-r-init : goal.loop-r-init
loop-r-init c = asked-first _ _

pub overflow_add-n : goal.overflow_add-n
overflow_add-n c = record { fits = omega (arith, asked-few _ _ _ _ c.loop-r.invariant) }

pub loop-r-preserved : goal.loop-r-preserved
loop-r-preserved c =
    elim c.if-is_counted.branch [
      | then-is_counted w ↦ asked-on _ _ _ _ _ _ c.loop-r.invariant (omega arith) c.is_counted.ensures w.if-is_counted.true w.n-is
      | else-is_counted w ↦ asked-past _ _ _ _ _ _ c.loop-r.invariant (omega arith) c.is_counted.ensures w.if-is_counted.false w.n-is
    ]

pub returns : goal.returns
returns c = asked-last _ _ _ _ c.loop-r.invariant (omega arith)
