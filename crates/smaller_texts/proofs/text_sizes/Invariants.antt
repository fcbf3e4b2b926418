use Rattle.std.proofs.Common.{◌≡◌, length}
use Rattle.flat_chart.specs.Numbers.{lent_of}
use Rattle.smaller.specs.Keeping.{keeping_of, texts_kept}
use Rattle.smaller_texts.proofs.Texts.{sizes_to}
use Rattle.smaller_texts.proofs.text_sizes.Given as goal

-- the sizes of the texts passed, and zeros
abbrev pub invariant-loop-e : goal.invariant-loop-e
invariant-loop-e l = l.sizes ≡ sizes_to (λ k. length (texts_kept (keeping_of l.kept) (lent_of l.chart) k)) l.e
