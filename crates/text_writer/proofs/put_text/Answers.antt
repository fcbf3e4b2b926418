use Rattle.derived.proofs.RuleBytes.{text-fits-1, text-fits-2, text-fits-3, text-wrote}
use Rattle.derived.specs.RuleBytes.{row-conditions, row-milestones, row-text, text-row}
use Rattle.flat_chart.specs.Numbers.{lent_of}
use Rattle.std.proofs.Common.{arith}
use Rattle.text_writer.proofs.put_text.Goals as goal

pub put16-requires : goal.put16-requires
put16-requires c = text-fits-1 _ _ _ _ _ _ (row-text _ _ c.row-row.ensures _ _ c.requires.3)

pub put_clauses-next-requires : goal.put_clauses-next-requires
put_clauses-next-requires c =
    let p = c.requires in (
      p.0,
      omega arith,
      row-conditions (lent_of c.args.chart) c.args.e c.row-row.ensures p.1,
      text-fits-2 _ _ _ _ _ _ (row-text _ _ c.row-row.ensures _ _ p.3) _ c.put16.ensures,
    )

pub put_clauses-requires : goal.put_clauses-requires
put_clauses-requires c =
    let p = c.requires in (
      p.0,
      omega arith,
      row-milestones (lent_of c.args.chart) c.args.e c.row-row.ensures p.1,
      text-fits-3 _ _ _ _ _ _ (row-text _ _ c.row-row.ensures _ _ p.3) _ c.put16.ensures _ _ c.put_clauses-next.ensures,
    )

pub returns : goal.returns
returns c =
    text-row _ _ c.row-row.ensures
    (text-wrote _ _ _ _ _ _ (row-text _ _ c.row-row.ensures _ _ c.requires.3) _ c.put16.ensures _ _ c.put_clauses-next.ensures _ _ c.put_clauses.ensures)
