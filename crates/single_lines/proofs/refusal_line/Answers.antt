-- `single_lines::refusal_line` meets its contract: its three numbers and the end of the line stand one behind another.
use Rattle.writing.specs.Writers.{fits₁, fits₂, fits₃, last₄, wrote₄}
use Rattle.single_lines.specs.Text.{refusal_line}
use Rattle.single_lines.proofs.refusal_line.Goals as goal

pub named-a-requires : goal.named-a-requires
unfolding refusal_line
named-a-requires c = fits₁ _ c.requires

pub named-b-requires : goal.named-b-requires
unfolding refusal_line
named-b-requires c = fits₂ c.named-a.ensures _ _ c.requires

pub named-c-requires : goal.named-c-requires
unfolding refusal_line
named-c-requires c = fits₃ c.named-b.ensures c.named-a.ensures _ _ c.requires

pub text-requires : goal.text-requires
unfolding refusal_line
text-requires c = last₄ c.named-c.ensures c.named-b.ensures c.named-a.ensures _ c.requires

pub returns : goal.returns
unfolding refusal_line
returns c = wrote₄ c.text.ensures c.named-c.ensures c.named-b.ensures c.named-a.ensures
