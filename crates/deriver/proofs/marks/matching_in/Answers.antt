use Rattle.deriver.specs.Matching.{matching-unfit, matching-done}
use Rattle.std.proofs.Common.{ap, not}
use Rattle.deriver.proofs.marks.matching_in.Goals as goal

pub returns-then-not-fits : goal.returns-then-not-fits
returns-then-not-fits c = matching-unfit _ _ _ c.fits.ensures (ap not c.if-not-fits.true) _ c.from.ensures

pub returns : goal.returns
returns c =
    matching-done _ _ _ c.fits.ensures (ap not c.if-not-fits.false) _ _ _ _ _ _ _ _ c.open_among.ensures c.all_below.ensures c.less-answered.ensures c.put_marks.ensures
    c.put_marks-2.ensures c.put_marks-3.ensures c.put_marks-4.ensures c.granted.ensures
