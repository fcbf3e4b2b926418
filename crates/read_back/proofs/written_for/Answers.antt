use Rattle.std.specs.Prelude.{not}
use Rattle.std.proofs.Common.{ap, ◌∙◌}
use Rattle.read_back.proofs.Returns.{written-unfit, written-fit, written_same}
use Rattle.read_back.proofs.written_for.Goals as goal

pub derived_same-requires : goal.derived_same-requires
derived_same-requires c = written-fit _ _ _ _ _ _ _ c.args.book.now _ c.is_fit.ensures c.requires (ap not c.if-is_fit.true)

pub returns-then-is_fit : goal.returns-then-is_fit
returns-then-is_fit c = written_same _ _ _ _ _ _ _ c.args.book.now _ c.is_fit.ensures c.requires (ap not c.if-is_fit.true) _ c.derived_same.ensures

pub returns-else-is_fit : goal.returns-else-is_fit
returns-else-is_fit c = c.if-is_fit.false ∙ written-unfit _ _ _ _ _ _ _ c.args.book.now _ c.is_fit.ensures c.requires (ap not c.if-is_fit.false)
