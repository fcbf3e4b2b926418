use Rattle.loop_search.proofs.Passing.{spreading-more}
use Rattle.loop_search.proofs.spread.Reach.spread.Goals as goal

pub loop-more-preserved : goal.loop-more-preserved
loop-more-preserved c =
    let a = c.ask_texts.ensures in
    let p = c.pass_rules-more.ensures in
    rw p.kept (spreading-more _ _ _ _ _ _ _ c.loop-more.invariant _ (rw a.kept at a.asked) _ _ (rw a.kept at p.passed))
