use Rattle.std.proofs.Common.{◌∙◌, arith}
use Rattle.unwritten.specs.Counters.{struck-shrunk}
use Rattle.ordering.proofs.Stepping.{turn-back, turn_on}
use Rattle.ordering.proofs.scan.write_rule.Goals as goal

pub returns-then-not-strike-clause-turn : goal.returns-then-not-strike-clause-turn
returns-then-not-strike-clause-turn c =
    turn_on _ c.args.scan _ _ _ _ _ _ _ _ _ _ _ c.requires.0 c.requires.1 c.requires.2 (c.strike.ensures.kept.0 ∙ c.mark_written.ensures) c.target_of-t.ensures.0 c.target_of-t.ensures.1
    c.strike.ensures.struck _ c.if-not-strike.true (omega arith, omega arith, λ h. omega arith)

pub returns-clause-turn : goal.returns-clause-turn
returns-clause-turn c =
    turn-back _ c.args.scan _ _ _ _ _ _ _ _ _ _ _ c.requires.0 c.requires.1 c.requires.2 (c.strike.ensures.kept.0 ∙ c.mark_written.ensures) c.target_of-t.ensures.0 c.target_of-t.ensures.1
    c.strike.ensures.struck _ _ _ c.if-not-strike.false (omega arith, omega arith) c.reach.ensures (omega arith, omega arith, λ h. omega arith)

pub returns-clause-shrunk : goal.returns-clause-shrunk
returns-clause-shrunk c = struck-shrunk _ _ _ _ _ _ c.strike.ensures.struck
