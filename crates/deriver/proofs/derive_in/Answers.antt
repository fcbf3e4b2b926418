use Rattle.derived.specs.Parts.{completions-in, texts-in}
use Rattle.deriver.specs.Deriving.{found-fit, derive-unfit, derive-short, derive-ready, derive-done}
use Rattle.std.proofs.Common.{ap, not, arith}
use Rattle.deriver.proofs.derive_in.Goals as goal

pub returns-then-not-is_fit : goal.returns-then-not-is_fit
returns-then-not-is_fit c = derive-unfit _ _ _ c.is_fit.ensures (ap not c.if-not-is_fit.true) _ c.from.ensures

pub completions_size-requires : goal.completions_size-requires
completions_size-requires c = let f = found-fit _ _ c.is_fit.ensures (ap not c.if-not-is_fit.false) in (f.few, completions-in _ f)

pub texts_size-words-requires : goal.texts_size-words-requires
texts_size-words-requires c = let f = found-fit _ _ c.is_fit.ensures (ap not c.if-not-is_fit.false) in (f.few, texts-in _ f)

pub overflow_cast-need : goal.overflow_cast-need
overflow_cast-need c = omega (arith, (found-fit _ _ c.is_fit.ensures (ap not c.if-not-is_fit.false)).few)

pub returns-then-room-need : goal.returns-then-room-need
returns-then-room-need c =
    derive-short _ _ _ c.is_fit.ensures (ap not c.if-not-is_fit.false) _ _ c.completions_size.ensures.0 c.texts_size-words.ensures.0 c.if-room-need.true _ c.from-then-room-need.ensures

pub overflow_cast-rules : goal.overflow_cast-rules
overflow_cast-rules c = omega (arith, (found-fit _ _ c.is_fit.ensures (ap not c.if-not-is_fit.false)).few)

pub put_book-requires : goal.put_book-requires
put_book-requires c =
    derive-ready _ _ _ c.is_fit.ensures (ap not c.if-not-is_fit.false) _ _ c.completions_size.ensures.0 c.texts_size-words.ensures.0 c.if-room-need.false

pub returns : goal.returns
returns c =
    derive-done _ _ _ c.is_fit.ensures (ap not c.if-not-is_fit.false) _ _ c.completions_size.ensures.0 c.texts_size-words.ensures.0 c.if-room-need.false _ _ c.put_book.ensures _
    c.granted.ensures
