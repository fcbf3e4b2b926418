use Rattle.std.proofs.Common.{arith}
use Rattle.flat_chart.specs.Numbers.{lent_of}
use Rattle.smaller.specs.Keeping.{keeping_of}
use Rattle.smaller_texts.proofs.Texts.{row-within, row-under, row-ran, words-counted, part-under, sizes-start, sizes-more}
use Rattle.smaller_texts.proofs.text_sizes.Goals as goal

pub loop-e-init : goal.loop-e-init
loop-e-init c = sizes-start _

pub put_text-bytes-requires : goal.put_text-bytes-requires
put_text-bytes-requires c =
    let w = row-within (lent_of c.args.chart) _ c.row.ensures c.requires.1 c.loop-e-test.true in (
      c.requires.0,
      c.loop-e-test.true,
      w.0,
      w.1,
      row-under (lent_of c.args.chart) _ c.row.ensures (keeping_of c.args.kept) _ (part-under _ _ _ c.loop-e-test.true c.requires.2),
    )

pub loop-e-preserved : goal.loop-e-preserved
loop-e-preserved c =
    sizes-more _ _ _ _ (omega arith) c.loop-e.invariant
    (words-counted _ (row-ran (lent_of c.args.chart) _ c.row.ensures (keeping_of c.args.kept) c.put_text-bytes.ensures))
