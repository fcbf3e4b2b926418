-- `single_lines::counts_line` meets its contract: its five runs and the end of the line stand one behind another.
use Rattle.writing.specs.Writers.{fits₁, fits₂, fits₃, fits₄, fits₅, last₆, wrote₆}
use Rattle.single_lines.specs.Text.{counts_line}
use Rattle.single_lines.proofs.counts_line.Goals as goal

pub named-a-requires : goal.named-a-requires
unfolding counts_line
named-a-requires c = fits₁ _ c.requires

pub named-b-requires : goal.named-b-requires
unfolding counts_line
named-b-requires c = fits₂ c.named-a.ensures _ _ c.requires

pub named-c-requires : goal.named-c-requires
unfolding counts_line
named-c-requires c = fits₃ c.named-b.ensures c.named-a.ensures _ _ c.requires

pub named-d-requires : goal.named-d-requires
unfolding counts_line
named-d-requires c = fits₄ c.named-c.ensures c.named-b.ensures c.named-a.ensures _ _ c.requires

pub named-e-requires : goal.named-e-requires
unfolding counts_line
named-e-requires c = fits₅ c.named-d.ensures c.named-c.ensures c.named-b.ensures c.named-a.ensures _ _ c.requires

pub text-requires : goal.text-requires
unfolding counts_line
text-requires c = last₆ c.named-e.ensures c.named-d.ensures c.named-c.ensures c.named-b.ensures c.named-a.ensures _ c.requires

pub returns : goal.returns
unfolding counts_line
returns c = wrote₆ c.text.ensures c.named-e.ensures c.named-d.ensures c.named-c.ensures c.named-b.ensures c.named-a.ensures
