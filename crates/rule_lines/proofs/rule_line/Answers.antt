-- `rule_lines::rule_line` meets its contract: its four runs and the end of the line stand one behind another.
use Rattle.writing.specs.Writers.{fits₁, fits₂, fits₃, fits₄, last₅, wrote₅}
use Rattle.rule_lines.specs.Text.{rule_line}
use Rattle.rule_lines.proofs.rule_line.Goals as goal

pub number-a-requires : goal.number-a-requires
unfolding rule_line
number-a-requires c = fits₁ _ c.requires

pub trigger_text-b-requires : goal.trigger_text-b-requires
unfolding rule_line
trigger_text-b-requires c = fits₂ c.number-a.ensures _ _ c.requires

pub sense_text-c-requires : goal.sense_text-c-requires
unfolding rule_line
sense_text-c-requires c = fits₃ c.trigger_text-b.ensures c.number-a.ensures _ _ c.requires

pub effect_text-d-requires : goal.effect_text-d-requires
unfolding rule_line
effect_text-d-requires c = fits₄ c.sense_text-c.ensures c.trigger_text-b.ensures c.number-a.ensures _ _ c.requires

pub text-requires : goal.text-requires
unfolding rule_line
text-requires c = last₅ c.effect_text-d.ensures c.sense_text-c.ensures c.trigger_text-b.ensures c.number-a.ensures _ c.requires

pub returns : goal.returns
unfolding rule_line
returns c = wrote₅ c.text.ensures c.effect_text-d.ensures c.sense_text-c.ensures c.trigger_text-b.ensures c.number-a.ensures
