-- `condition_lines::condition_line` meets its contract: its runs stand one behind another.
use Rattle.writing.specs.Writers.{fits₁, fits₂, fits₃, last₄, wrote₄}
use Rattle.condition_lines.specs.Text.{condition_line}
use Rattle.condition_lines.proofs.condition_line.Goals as goal

pub named-a-requires : goal.named-a-requires
unfolding condition_line
named-a-requires c = fits₁ _ c.requires.1

pub text-b-requires : goal.text-b-requires
unfolding condition_line
text-b-requires c = fits₂ c.named-a.ensures _ _ c.requires.1

pub words_text-d-requires : goal.words_text-d-requires
unfolding condition_line
words_text-d-requires c = (c.requires.0, fits₃ c.text-b.ensures c.named-a.ensures _ _ c.requires.1)

pub text-requires : goal.text-requires
unfolding condition_line
text-requires c = last₄ c.words_text-d.ensures c.text-b.ensures c.named-a.ensures _ c.requires.1

pub returns : goal.returns
unfolding condition_line
returns c = wrote₄ c.text.ensures c.words_text-d.ensures c.text-b.ensures c.named-a.ensures
