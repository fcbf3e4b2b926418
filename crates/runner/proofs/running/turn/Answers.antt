-- `runner::running::turn`: the rule fires, or not, or alters nothing.
use Rattle.runner.proofs.Turns.{known_so, target-so, fired, kept, idle}
use Rattle.runner.proofs.running.turn.Goals.{else-alters-via-then-alters+else-rule_fires, else-alters-via-else-alters}
use Rattle.runner.proofs.running.turn.Goals as goal
use Rattle.std.proofs.Common.{rules}

pub alters-requires : goal.alters-requires
alters-requires c = (target-so _ _ _ c.requires.0.formed c.requires.1 c.rule_in-rule.ensures, search rules)

pub rule_fires-requires : goal.rule_fires-requires
rule_fires-requires c = (c.requires.0, known_so _ _ _ c.requires.0.formed c.requires.1 c.rule_in-rule.ensures)

pub returns-then-rule_fires : goal.returns-then-rule_fires
returns-then-rule_fires c = fired _ _ _ _ _ _ c.requires.1 c.rule_in-rule.ensures c.rule_fires.ensures c.if-rule_fires.true _ c.apply.ensures

pub returns-else-alters : goal.returns-else-alters
returns-else-alters c =
    elim c.else-alters.branch [
      | else-alters-via-then-alters+else-rule_fires w ↦ kept _ _ _ _ _ _ c.requires.1 c.rule_in-rule.ensures w.rule_fires.ensures w.if-rule_fires.false
      | else-alters-via-else-alters w ↦ idle _ _ _ _ _ _ c.requires.1 c.rule_in-rule.ensures c.alters.ensures w.if-alters.false
    ]
