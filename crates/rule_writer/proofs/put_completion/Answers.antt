use Rattle.derived.specs.RuleBytes.{row-inclusions, row-responses, row-completion, completion-row}
use Rattle.derived.specs.RuleBytes.{changed-within, completion-fits-1, completion-fits-2, completion-fits-3, completion-fits-4, completion-wrote}
use Rattle.wide.specs.Number.{number}
use Rattle.flat_chart.specs.Numbers.{lent_of}
use Rattle.std.proofs.Common.{arith}
use Rattle.rule_writer.proofs.put_completion.Goals as goal

pub put_effects-a-requires : goal.put_effects-a-requires
put_effects-a-requires c =
    let p = c.requires in (
      p.0,
      p.2,
      omega arith,
      changed-within _ (number c.row-row.result.includes) (number c.row-row.result.excludes) _ c.join-changed.ensures (row-inclusions (lent_of c.args.chart) c.args.e c.row-row.ensures p.1),
      completion-fits-1 _ _ _ _ _ _ _ _ _ c.join-changed.ensures c.empty-none.ensures (row-completion _ _ c.row-row.ensures _ _ p.3),
    )

pub put_effects-b-requires : goal.put_effects-b-requires
put_effects-b-requires c =
    let p = c.requires in (
      p.0,
      p.2,
      omega arith,
      row-responses (lent_of c.args.chart) c.args.e c.row-row.ensures p.1,
      completion-fits-2 _ _ _ _ _ _ _ _ _ c.join-changed.ensures c.empty-none.ensures (row-completion _ _ c.row-row.ensures _ _ p.3) _ _ c.put_effects-a.ensures,
    )

pub put_answer-c-requires : goal.put_answer-c-requires
put_answer-c-requires c =
    let p = c.requires in (
      p.0,
      p.2,
      completion-fits-3 _ _ _ _ _ _ _ _ _ c.join-changed.ensures c.empty-none.ensures (row-completion _ _ c.row-row.ensures _ _ p.3) _ _ c.put_effects-a.ensures _ _
          c.put_effects-b.ensures,
    )

pub put_on-requires : goal.put_on-requires
put_on-requires c =
    let p = c.requires in (
      omega arith,
      omega arith,
      completion-fits-4 _ _ _ _ _ _ _ _ _ c.join-changed.ensures c.empty-none.ensures (row-completion _ _ c.row-row.ensures _ _ p.3) _ _ c.put_effects-a.ensures _ _
          c.put_effects-b.ensures _ _ c.put_answer-c.ensures,
    )

pub returns : goal.returns
returns c =
    let p = c.requires in
    completion-row _ _ c.row-row.ensures
    (completion-wrote _ _ _ _ _ _ _ _ _ c.join-changed.ensures c.empty-none.ensures (row-completion _ _ c.row-row.ensures _ _ p.3) _ _ c.put_effects-a.ensures _ _
    c.put_effects-b.ensures _ _ c.put_answer-c.ensures _ _ c.put_on.ensures)
