use Rattle.flat_chart.specs.Numbers.{lent_of}
use Rattle.smaller.specs.Keeping.{keeping_of}
use Rattle.smaller.specs.Loops.{upto-start, upto-under, upto-more}
use Rattle.smaller_texts.proofs.Texts.{row-within, row-under, row-ran}
use Rattle.smaller_texts.proofs.put_texts.Goals as goal

pub loop-e-init : goal.loop-e-init
loop-e-init c = upto-start

pub put_text-next-requires : goal.put_text-next-requires
put_text-next-requires c =
    let w = row-within (lent_of c.args.chart) _ c.row.ensures c.requires.1 c.loop-e-test.true in (
      c.requires.0,
      c.loop-e-test.true,
      w.0,
      w.1,
      row-under (lent_of c.args.chart) _ c.row.ensures (keeping_of c.args.kept) _ (upto-under c.loop-e.invariant c.loop-e-test.true c.requires.2),
    )

pub loop-e-preserved : goal.loop-e-preserved
loop-e-preserved c = upto-more c.loop-e.invariant c.loop-e-test.true (row-ran (lent_of c.args.chart) _ c.row.ensures (keeping_of c.args.kept) c.put_text-next.ensures)
