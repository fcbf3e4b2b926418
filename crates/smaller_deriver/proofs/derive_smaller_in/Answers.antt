use Rattle.std.proofs.Common.{refl}
use Rattle.smaller_deriver.specs.Calling.{smaller-unfit, whole, smaller-narrow, smaller-granted}
use Rattle.smaller_deriver.proofs.derive_smaller_in.Goals as goal

pub returns-then-not-fits : goal.returns-then-not-fits
returns-then-not-fits c = smaller-unfit _ _ _ _ c.fits.ensures c.if-not-fits.true c.from.ensures c.refused.ensures

pub put_book-answer-requires : goal.put_book-answer-requires
put_book-answer-requires c =
    whole _ _ c.args.room.now _ c.fits.ensures c.if-not-fits.false c.union_upto-executed.ensures c.included_kept-included.ensures
    c.answered_kept-answered.ensures c.number-numbered.ensures

pub returns-then-answer-ne0 : goal.returns-then-answer-ne0
returns-then-answer-ne0 c =
    smaller-narrow _ _ _ _ c.fits.ensures c.if-not-fits.false c.union_upto-executed.ensures c.included_kept-included.ensures
    c.answered_kept-answered.ensures c.number-numbered.ensures c.put_book-answer.ensures c.if-answer-ne0.true c.refused-then-answer-ne0.ensures

pub returns : goal.returns
returns c =
    smaller-granted _ _ _ _ c.fits.ensures c.if-not-fits.false c.union_upto-executed.ensures c.included_kept-included.ensures
    c.answered_kept-answered.ensures c.number-numbered.ensures c.put_book-answer.ensures c.if-answer-ne0.false refl
