-- `rule_lines::rule_lines` meets its contract: each turn writes the line of one rule.
use Rattle.writing.specs.Writers.{lines_start, lines-done}
use Rattle.rule_lines.specs.Writers.{rule_fits, rule-more}
use Rattle.rule_lines.proofs.rule_lines.Goals as goal

pub loop-i-init : goal.loop-i-init
loop-i-init c = search lines_start

pub rule_line-next-requires : goal.rule_line-next-requires
rule_line-next-requires c = search rule_fits

pub loop-i-preserved : goal.loop-i-preserved
loop-i-preserved c = search rule-more

pub returns : goal.returns
returns c = search lines-done
