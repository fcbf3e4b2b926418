-- `indexed::judging::judge_index`: a law for each return.
use Rattle.judge.proofs.Returns.{thrown}
use Rattle.index_builder.proofs.Returns.{counts-asks, index-ready}
use Rattle.indexed.proofs.Returns.{book-stops, index-fits, index-differs, indexed-with}
use Rattle.indexed.proofs.judging.judge_index.Goals as goal

pub returns-in_err-counts-clause-answer : goal.returns-in_err-counts-clause-answer
returns-in_err-counts-clause-answer c = thrown _ _ c.from_residual.ensures.1 _ (book-stops _ _ _ c.in_err-counts.ensures.answer)

pub of-sizes-requires : goal.of-sizes-requires
of-sizes-requires c = counts-asks _ _ c.in_ok-counts.ensures.passes

pub index_same-requires : goal.index_same-requires
index_same-requires c = index-ready _ _ c.in_ok-counts.ensures.passes _ _ c.of-sizes.ensures

pub returns-then-not-index_same-clause-answer : goal.returns-then-not-index_same-clause-answer
returns-then-not-index_same-clause-answer c = index-differs _ _ _ c.in_ok-counts.ensures.passes _ c.index_same.ensures c.if-not-index_same.true

pub returns-clause-answer : goal.returns-clause-answer
returns-clause-answer c = index-fits _ _ _ c.in_ok-counts.ensures.passes _ c.index_same.ensures c.if-not-index_same.false

pub returns-clause-indexed : goal.returns-clause-indexed
returns-clause-indexed c = indexed-with _ _ _ c.in_ok-counts.ensures.passes _ c.index_same.ensures c.if-not-index_same.false
