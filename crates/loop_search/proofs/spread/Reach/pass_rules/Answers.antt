use Rattle.std.proofs.Common.{refl, ◌∙◌, arith}
use Rattle.loop_search.proofs.Passing.{passing-first, passing-more, passing-past, passing-last}
use Rattle.loop_search.proofs.spread.Reach.pass_rules.Goals as goal
use Rattle.loop_search.proofs.spread.Reach.pass_rules.Goals.{then-is_counted, else-is_counted}

pub loop-r-init : goal.loop-r-init
loop-r-init c = record { passing = passing-first _ _ _ _ _ c.requires.0 c.requires.1 c.requires.2 c.requires.3; kept = refl }

pub loop-r-preserved : goal.loop-r-preserved
loop-r-preserved c =
    let i = c.loop-r.invariant in
    elim c.if-is_counted.branch [
      | then-is_counted w ↦ rw (w.self-is, w.more-is) (record {
        passing = passing-more _ _ _ _ _ _ _ _ i.passing c.loop-r-test.true _ c.is_counted.ensures _ _ w.if-is_counted.true (rw i.kept at w.carry-more.ensures.carried) _ _ refl refl;
        kept = w.carry-more.ensures.kept ∙ i.kept;
      })
      | else-is_counted w ↦ rw (w.self-is, w.more-is) (record {
        passing = passing-past _ _ _ _ _ _ _ _ i.passing c.loop-r-test.true _ c.is_counted.ensures _ _ w.if-is_counted.false refl refl;
        kept = i.kept;
      })
    ]

pub returns-clause-passed : goal.returns-clause-passed
returns-clause-passed c = passing-last _ _ _ _ _ _ _ _ c.loop-r.invariant.passing (omega arith)
