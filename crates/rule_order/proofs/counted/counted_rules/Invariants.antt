use Rattle.rule_order.specs.Nets.{Asked}
use Rattle.rule_order.proofs.counted.counted_rules.Given as goal

-- n of the rules below r count
abbrev pub invariant-loop-r : goal.invariant-loop-r
invariant-loop-r l = Asked l.image l.stage l.n l.r
