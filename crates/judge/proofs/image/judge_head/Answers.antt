-- `judge::image::judge_head`: the head that passed its three tests.
use Rattle.judge.proofs.Returns.{begun}
use Rattle.std.proofs.Common.{sym, ◌∙◌}
use Rattle.judge.proofs.image.judge_head.Goals as goal

pub returns-clause-begun : goal.returns-clause-begun
returns-clause-begun c =
    begun _ _ c.if-image-lt-BOOK_HEADER.false (sym c.counts_fit.ensures ∙ c.if-not-counts_fit.false)
    (sym c.layout_fits.ensures ∙ c.if-not-layout_fits.false) c.counts_at-counts.ensures
